-- What is derived in a context is derived in one with an entry more, with the variables renumbered.
use Rattle.std.proofs.Common.{◌≡◌, ℕ, zero, suc, ◌≤◌, IsTrue, true, false, not, Option, Some, None, List, [], ◌∷◌, length, refl, sym, ap, ◌∙◌, subst as at}
use Rattle.cg_base.specs.declared.kind.Kinds.{Kinds}
use Rattle.cg_base.specs.declared.kind.Sigil.TheVariants.{U}
use Rattle.cg_base.specs.Types as types
use Rattle.cg_base.specs.Types.{Tau, fields, arrow}
use Rattle.cg_core.specs.declared.derivation.Mark.{Mark}
use Rattle.cg_core.specs.declared.derivation.Mark.TheVariants.{Gone}
use Rattle.cg_core.specs.declared.derivation.Node.TheVariants as nodes
use Rattle.cg_core.specs.Derivations as trees
use Rattle.cg_core.specs.Derivations.{Derivation, Derivations, derivation}
use Rattle.cg_core.specs.Kernels.{Function}
use Rattle.cg_core.specs.Terms.{Tree, term, Shape, var, unit, bool, lit, fun, op, app, lets, let_bang, if_else, con, case_of, esac, struct, member, take_field, put, cast, annot, none, more, Named, end, field, Note}
use Rattle.cg_kinds.specs.Kinds.{kinds}
use Rattle.cg_typing.specs.Contexts.{Context, push, shares}
use Rattle.cg_typing.specs.Operators.{sort_of, takes, gives, along, operand}
use Rattle.cg_typing.specs.Parts.{is_read_only, widens, field_in, alternative_in, held, is_left, is_there, may_be_put_over, with_part, is_last}
use Rattle.cg_typing.specs.Rules.{second_branch, type_at, is_literal, is_literal_shape, parts_made, record_made, Derives, DerivesShape, DerivesFields}
use Rattle.cg_typing.specs.Trees.{leaf, one, two, three, first_marks, marks_of}
use Rattle.cg_typing.specs.Inserted.{inserted, raise, raise_shape, raise_fields}
use Rattle.cg_typing_laws.specs.Laws.{EntriesAreInserted}
use Rattle.cg_typing.specs.Wider.{IsWiderEntry, IsWider, IsDerived}
use Rattle.cg_typing_laws.proofs.Positions.{look_old, push_inserted, splits_inserted, first_part, second_part, below_first, below_second, below_push, drops_inserted, drops_but_inserted}
use Rattle.cg_typing_laws.proofs.Weakening.{AreDerived, weakening, same_wider}

module _ (k : ℕ) where
  type_raised : (c : Tree Note) → type_at (raise k c) ≡ type_at c
  type_raised (term a shape) = refl

  literal_raised : (c : Tree Note) → is_literal (raise k c) ≡ is_literal c
  literal_raised (term a shape) = go shape
    where
      go : (s : Shape Note) → is_literal_shape (raise_shape k s) ≡ is_literal_shape s
      go (lit v) = refl
      go (var j) = refl
      go unit = refl
      go (bool v) = refl
      go (fun f args) = refl
      go (op o ts) = refl
      go (app f x) = refl
      go (lets v e b) = refl
      go (let_bang os v e b) = refl
      go (if_else c x y) = refl
      go (con name e) = refl
      go (case_of e a v x y) = refl
      go (esac a e) = refl
      go (struct fs) = refl
      go (member e a) = refl
      go (take_field e a v w b) = refl
      go (put e a x) = refl
      go (cast e) = refl
      go (annot e t) = refl

  parts_raised : (fs : Named Note) → parts_made (raise_fields k fs) ≡ parts_made fs
  parts_raised end = refl
  parts_raised (field name (term a shape) fs) = ap (types.part name a.ty false) (parts_raised fs)

  record_raised : (fs : Named Note) → record_made (raise_fields k fs) ≡ record_made fs
  record_raised fs = ap (λ ps. fields ps U) (parts_raised fs)

module _ (functions : List Function) (vars : List Kinds) (k : ℕ) where
  abbrev D : Context → Option Tau → Tree Note → Type 0
  D = IsDerived functions vars

  abbrev DShape : Context → Option Tau → Tau → Shape Note → Type 0
  DShape g direction t shape = (d : Derivation) × DerivesShape functions vars g d direction t shape

  -- a part, in a context and a direction that are what is left of the node's
  moved : (c : Tree Note) (g h : Context) (x y : Option Tau) → h ≡ g → y ≡ x → D g x c → D h y c
  moved c g h x y e f p = at (λ h. D h y c) (sym e) (at (λ y. D g y c) (sym f) p)

  -- tests of a part's type
  tested : (P : Tau → Type 0) (c : Tree Note) → P (type_at c) → P (type_at (raise k c))
  tested P c h = at P (sym (type_raised k c)) h

  more_one : (h g : Context) (t u : Tau) → k ≤ length g → h ≡ inserted k None g → u ≡ t → push h (Some u) ≡ inserted k None (push g (Some t))
  more_one h g t u b e f = ap (λ h. push h (Some u)) e ∙ ap (λ u. push (inserted k None g) (Some u)) f ∙ push_inserted k g (Some t) b

  mutual
    renumbered : (c : Tree Note) (g : Context) (d : Derivation) (direction : Option Tau) → k ≤ length g → Derives functions vars g d direction c → D (inserted k None g) direction (raise k c)
    renumbered (term a shape) g d direction b h = let s = renumbered_shape shape g d direction a.ty b h in record { tree = s.0; derives = s.1 }

    renumbered_shape : (shape : Shape Note) (g : Context) (d : Derivation) (direction : Option Tau) (t : Tau) → k ≤ length g → DerivesShape functions vars g d direction t shape
        → DShape (inserted k None g) direction t (raise_shape k shape)
    renumbered_shape (var i) g d direction t b h =
        (leaf nodes.Var, record { tree = refl; present = look_old k None g i b ∙ h.present; others = drops_but_inserted vars k i g b h.others; meets = h.meets })
    renumbered_shape unit g d direction t b h = (leaf nodes.Unit, record { tree = refl; is = h.is; others = drops_inserted vars k g b h.others; meets = h.meets })
    renumbered_shape (bool v) g d direction t b h = (leaf nodes.Bool, record { tree = refl; is = h.is; others = drops_inserted vars k g b h.others; meets = h.meets })
    renumbered_shape (lit v) g d direction t b h =
        (leaf nodes.Lit, record { tree = refl; checked = h.checked; is_a_word = h.is_a_word; in_range = h.in_range; others = drops_inserted vars k g b h.others })
    renumbered_shape (fun f args) g d direction t b h =
        (leaf nodes.Fun, record { tree = refl; many = h.many; arguments = h.arguments; is = h.is; others = drops_inserted vars k g b h.others; meets = h.meets })
    renumbered_shape (op o none) g d direction t b h = absurd h
    renumbered_shape (op o (more x none)) g d direction t b h =
        let p = moved (raise k x) _ _ _ _ refl (ap (operand (sort_of o) direction true) (type_raised k x)) (renumbered x g _ _ b h.operand) in (
          one nodes.Op p.tree,
          record {
            tree = refl;
            counted = h.counted;
            operand = p.derives;
            takes = tested (λ u. IsTrue (takes (sort_of o) u)) x h.takes;
            is = tested (λ u. t ≡ gives (sort_of o) u) x h.is;
            meets = h.meets;
          },
        )
    renumbered_shape (op o (more l (more r none))) g d direction t b h =
        let s = h.splits in let ms = marks_of d in
        let p = moved (raise k l) _ _ _ _ (first_part vars k [] ms g b s)
        (ap (λ q. operand (sort_of o) direction (not q) (type_at (raise k l))) (literal_raised k l) ∙ ap (operand (sort_of o) direction (not (is_literal l))) (type_raised k l))
        (renumbered l _ _ _ (below_first vars k [] ms g b s) h.left) in
        let q = moved (raise k r) _ _ _ _ (second_part vars k [] ms g b s)
        (ap (λ q. operand (sort_of o) direction q (type_at (raise k r))) (literal_raised k l) ∙ ap (operand (sort_of o) direction (is_literal l)) (type_raised k r))
        (renumbered r _ _ _ (below_second vars k [] ms g b s) h.right) in (
          two nodes.Op (inserted k Gone ms) p.tree q.tree,
          record {
            tree = refl;
            counted = h.counted;
            splits = splits_inserted vars k [] ms g b s;
            left = p.derives;
            right = q.derives;
            alike = type_raised k l ∙ h.alike ∙ sym (type_raised k r);
            takes = tested (λ u. IsTrue (takes (sort_of o) u)) l h.takes;
            is = tested (λ u. t ≡ gives (sort_of o) u) l h.is;
            meets = h.meets;
          },
        )
    renumbered_shape (op o (more l (more r (more x ts)))) g d direction t b h = absurd h
    renumbered_shape (app f x) g d direction t b h =
        let s = h.splits in let ms = marks_of d in
        let p = moved (raise k f) _ _ _ _ (first_part vars k [] ms g b s) refl (renumbered f _ _ _ (below_first vars k [] ms g b s) h.function) in
        let q = moved (raise k x) _ _ _ _ (second_part vars k [] ms g b s) (ap Some (type_raised k x)) (renumbered x _ _ _ (below_second vars k [] ms g b s) h.argument) in (
          two nodes.App (inserted k Gone ms) p.tree q.tree,
          record {
            tree = refl;
            splits = splits_inserted vars k [] ms g b s;
            function = p.derives;
            argument = q.derives;
            is_arrow = type_raised k f ∙ h.is_arrow ∙ ap (λ u. arrow u t) (sym (type_raised k x));
            meets = h.meets;
          },
        )
    renumbered_shape (lets v e c) g d direction t b h =
        let s = h.splits in let ms = marks_of d in
        let p = moved (raise k e) _ _ _ _ (first_part vars k [] ms g b s) refl (renumbered e _ _ _ (below_first vars k [] ms g b s) h.value) in
        let q = moved (raise k c) _ _ _ _ (more_one _ _ (type_at e) _ (below_second vars k [] ms g b s) (second_part vars k [] ms g b s) (type_raised k e)) refl
        (renumbered c _ _ _ (below_push vars k _ _ (below_second vars k [] ms g b s)) h.body) in (
          two nodes.Let (inserted k Gone ms) p.tree q.tree,
          record { tree = refl; splits = splits_inserted vars k [] ms g b s; value = p.derives; body = q.derives; is = h.is ∙ sym (type_raised k c) },
        )
    renumbered_shape (let_bang os v e c) g d direction t b h =
        let s = h.splits in let ms = marks_of d in
        let p = moved (raise k e) _ _ _ _ (first_part vars k os ms g b s) refl (renumbered e _ _ _ (below_first vars k os ms g b s) h.value) in
        let q = moved (raise k c) _ _ _ _ (more_one _ _ (type_at e) _ (below_second vars k os ms g b s) (second_part vars k os ms g b s) (type_raised k e)) refl
        (renumbered c _ _ _ (below_push vars k _ _ (below_second vars k os ms g b s)) h.body) in (
          two nodes.LetBang (inserted k Gone ms) p.tree q.tree,
          record {
            tree = refl;
            splits = splits_inserted vars k os ms g b s;
            value = p.derives;
            escapes = tested (λ u. IsTrue (kinds vars u).escape) e h.escapes;
            body = q.derives;
            is = h.is ∙ sym (type_raised k c);
          },
        )
    renumbered_shape (if_else c x y) g d direction t b h =
        let s = h.splits in let ms = marks_of d in
        let p = moved (raise k c) _ _ _ _ (first_part vars k [] ms g b s) refl (renumbered c _ _ _ (below_first vars k [] ms g b s) h.condition) in
        let q = moved (raise k x) _ _ _ _ (second_part vars k [] ms g b s) refl (renumbered x _ _ _ (below_second vars k [] ms g b s) h.first) in
        let r = moved (raise k y) _ _ _ _ (second_part vars k [] ms g b s) (ap (second_branch direction) (type_raised k x)) (renumbered y _ _ _ (below_second vars k [] ms g b s) h.second) in (
          three nodes.If (inserted k Gone ms) p.tree q.tree r.tree,
          record {
            tree = refl;
            splits = splits_inserted vars k [] ms g b s;
            condition = p.derives;
            first = q.derives;
            second = r.derives;
            is = h.is ∙ sym (type_raised k x);
            alike = type_raised k y ∙ h.alike ∙ sym (type_raised k x);
          },
        )
    renumbered_shape (con n e) g d direction t b h =
        let p = renumbered e g _ _ b h.payload in
        (one nodes.Con p.tree, record { tree = refl; checked = h.checked; left = h.left; payload = p.derives })
    renumbered_shape (case_of e a v x y) g d direction t b h =
        let s = h.splits in let ms = marks_of d in
        let p = moved (raise k e) _ _ _ _ (first_part vars k [] ms g b s) refl (renumbered e _ _ _ (below_first vars k [] ms g b s) h.subject) in
        let q = moved (raise k x) _ _ _ _
        (more_one _ _ (held (alternative_in a.name (type_at e))) _ (below_second vars k [] ms g b s) (second_part vars k [] ms g b s) (ap (λ u. held (alternative_in a.name u)) (type_raised k e)))
        refl (renumbered x _ _ _ (below_push vars k _ _ (below_second vars k [] ms g b s)) h.first) in
        let r = moved (raise k y) _ _ _ _
        (more_one _ _ (with_part a.name true (type_at e)) _ (below_second vars k [] ms g b s) (second_part vars k [] ms g b s) (ap (with_part a.name true) (type_raised k e)))
        (ap (second_branch direction) (type_raised k x)) (renumbered y _ _ _ (below_push vars k _ _ (below_second vars k [] ms g b s)) h.second) in (
          three nodes.Case (inserted k Gone ms) p.tree q.tree r.tree,
          record {
            tree = refl;
            splits = splits_inserted vars k [] ms g b s;
            subject = p.derives;
            left = tested (λ u. IsTrue (is_left (alternative_in a.name u))) e h.left;
            first = q.derives;
            second = r.derives;
            is = h.is ∙ sym (type_raised k x);
            alike = type_raised k y ∙ h.alike ∙ sym (type_raised k x);
          },
        )
    renumbered_shape (esac a e) g d direction t b h =
        let p = renumbered e g _ _ b h.subject in (
          one nodes.Esac p.tree,
          record {
            tree = refl;
            subject = p.derives;
            left = tested (λ u. IsTrue (is_left (alternative_in a.name u))) e h.left;
            last = tested (λ u. IsTrue (is_last a.name u)) e h.last;
            is = tested (λ u. t ≡ held (alternative_in a.name u)) e h.is;
            meets = h.meets;
          },
        )
    renumbered_shape (struct fs) g d direction t b h =
        let p = renumbered_fields fs g _ _ direction b h.fields in
        (derivation nodes.Struct p.strings p.parts, record { tree = refl; fields = p.derives; is = h.is ∙ sym (record_raised k fs); meets = h.meets })
    renumbered_shape (member e a) g d direction t b h =
        let p = renumbered e g _ _ b h.whole in (
          one nodes.Member p.tree,
          record {
            tree = refl;
            whole = p.derives;
            left = tested (λ u. IsTrue (is_left (field_in a.name u))) e h.left;
            shared = tested (λ u. IsTrue (shares vars u)) e h.shared;
            is = tested (λ u. t ≡ held (field_in a.name u)) e h.is;
            meets = h.meets;
          },
        )
    renumbered_shape (take_field e a v w c) g d direction t b h =
        let s = h.splits in let ms = marks_of d in
        let p = moved (raise k e) _ _ _ _ (first_part vars k [] ms g b s) refl (renumbered e _ _ _ (below_first vars k [] ms g b s) h.whole) in
        let q = moved (raise k c) _ _ _ _
        (more_one _ _ (held (field_in a.name (type_at e))) _ (below_push vars k _ _ (below_second vars k [] ms g b s))
        (more_one _ _ (with_part a.name true (type_at e)) _ (below_second vars k [] ms g b s) (second_part vars k [] ms g b s) (ap (with_part a.name true) (type_raised k e)))
        (ap (λ u. held (field_in a.name u)) (type_raised k e)))
        refl (renumbered c _ _ _ (below_push vars k _ _ (below_push vars k _ _ (below_second vars k [] ms g b s))) h.body) in (
          two nodes.Take (inserted k Gone ms) p.tree q.tree,
          record {
            tree = refl;
            splits = splits_inserted vars k [] ms g b s;
            whole = p.derives;
            left = tested (λ u. IsTrue (is_left (field_in a.name u))) e h.left;
            written = tested (λ u. is_read_only u ≡ false) e h.written;
            body = q.derives;
            is = h.is ∙ sym (type_raised k c);
          },
        )
    renumbered_shape (put e a x) g d direction t b h =
        let s = h.splits in let ms = marks_of d in
        let p = moved (raise k e) _ _ _ _ (first_part vars k [] ms g b s) refl (renumbered e _ _ _ (below_first vars k [] ms g b s) h.whole) in
        let q = moved (raise k x) _ _ _ _ (second_part vars k [] ms g b s) (ap (λ u. Some (held (field_in a.name u))) (type_raised k e))
        (renumbered x _ _ _ (below_second vars k [] ms g b s) h.value) in (
          two nodes.Put (inserted k Gone ms) p.tree q.tree,
          record {
            tree = refl;
            splits = splits_inserted vars k [] ms g b s;
            whole = p.derives;
            there = tested (λ u. IsTrue (is_there (field_in a.name u))) e h.there;
            written = tested (λ u. is_read_only u ≡ false) e h.written;
            over = tested (λ u. IsTrue (may_be_put_over vars (field_in a.name u))) e h.over;
            value = q.derives;
            is = tested (λ u. t ≡ with_part a.name false u) e h.is;
            meets = h.meets;
          },
        )
    renumbered_shape (cast e) g d direction t b h =
        let p = renumbered e g _ _ b h.operand in
        (one nodes.Cast p.tree, record { tree = refl; checked = h.checked; operand = p.derives; widens = tested (λ u. IsTrue (widens u t)) e h.widens })
    renumbered_shape (annot e a) g d direction t b h =
        let p = renumbered e g _ _ b h.value in
        (one nodes.Annot p.tree, record { tree = refl; arrays = h.arrays; value = p.derives; is = h.is; meets = h.meets })

    renumbered_fields : (fs : Named Note) (g : Context) (strings : List (List Mark)) (ds : Derivations) (direction : Option Tau) → k ≤ length g
        → DerivesFields functions vars g strings ds direction fs → AreDerived functions vars (inserted k None g) direction (raise_fields k fs)
    renumbered_fields end g strings ds direction b h = absurd h
    renumbered_fields (field n e end) g strings ds direction b h =
        let p = moved (raise k e) _ _ _ _ refl (ap (along direction) (type_raised k e)) (renumbered e g _ _ b h.value) in
        record { strings = []; parts = trees.part p.tree trees.done; derives = record { ended = refl; parts = refl; value = p.derives } }
    renumbered_fields (field n e (field m x fs)) g strings ds direction b h =
        let s = h.splits in let ms = first_marks strings in
        let p = moved (raise k e) _ _ _ _ (first_part vars k [] ms g b s) (ap (along direction) (type_raised k e)) (renumbered e _ _ _ (below_first vars k [] ms g b s) h.value) in
        let q = at (λ g. AreDerived functions vars g direction (raise_fields k (field m x fs))) (sym (second_part vars k [] ms g b s))
        (renumbered_fields (field m x fs) _ _ _ direction (below_second vars k [] ms g b s) h.later) in
        record {
          strings = inserted k Gone ms ∷ q.strings;
          parts = trees.part p.tree q.parts;
          derives = record { marked = refl; parts = refl; splits = splits_inserted vars k [] ms g b s; value = p.derives; later = q.derives };
        }

-- an entry that is gone beside one that is wider
all_wider : (vars : List Kinds) (g : Context) → IsWider vars g g
all_wider vars [] = tt
all_wider vars (o ∷ g) = (same_wider vars o, all_wider vars g)

inserted_wider : (vars : List Kinds) (k : ℕ) (o : Option Tau) (g : Context) → IsWiderEntry vars None o → IsWider vars (inserted k None g) (inserted k o g)
inserted_wider vars zero o g w = (w, all_wider vars g)
inserted_wider vars (suc k) o [] w = (w, tt)
inserted_wider vars (suc k) o (x ∷ g) w = (same_wider vars x, inserted_wider vars k o g w)

-- an entry is inserted, with the variables renumbered
pub insertion : EntriesAreInserted
insertion functions vars k o g b w d direction c h =
    let p = renumbered functions vars k c g d direction b h in
    weakening functions vars (inserted k None g) (inserted k o g) (inserted_wider vars k o g w) p.tree direction (raise k c) p.derives
