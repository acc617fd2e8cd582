-- What is collected grows, one part after the other.
use Rattle.std.proofs.Common.{Bor, ◌≡◌, ℕ, zero, suc, ◌+◌, ◌<◌, ◌≤◌, List, [], ◌∷◌, ◌++◌, length, map, take, get_or, Some, None, refl, sym, ap, subst, ◌∙◌}
use Rattle.std.specs.List.{AllByRecursion, flat_map}
use Rattle.std.specs.Prelude.{OnOk, Result, Ok, Err, slice_get}
use Rattle.std.proofs.lemmas.List.{append-nil, append_assoc, map-append, take_all, take_more}
use Rattle.cg_base.specs.declared.ty.Part.{Part}
use Rattle.cg_base.specs.declared.ty.Ty.{the_lemmas as type_lemmas}
use Rattle.cg_base.proofs.Views.{piece_of}
use Rattle.cg_base.specs.Types.{Tau, Piece, part_of, to_parts, type_of}
use Rattle.cg_core.specs.declared.term.Form.{the_lemmas as core_lemmas}
use Rattle.cg_core.specs.declared.term.Term.{Term}
use Rattle.cg_core.specs.declared.term.Typed.{Typed}
use Rattle.cg_core.specs.Kernels.{the_core, the_core_form}
use Rattle.cg_core.specs.Terms.{Note, note_of, Shape, Tree, term, app}
use Rattle.cg_typing.specs.Rules.{type_at}
use Rattle.cg_lower.proofs.Apart.{collected_apart}
use Rattle.cg_lower.specs.Calls.{AreApart}
use Rattle.cg_lower.specs.Copies.{copies_of, pair_of}
use Rattle.cg_lower.specs.declared.gather.Collected.{Collected}
use Rattle.cg_lower.specs.Results.{IsCollected}
use Rattle.cg_inst.specs.Views.{instance_of}
use Rattle.cg_mono.specs.declared.copies.Copy.{Copy as OneCopy}
use Rattle.cg_mono.specs.declared.copies.Mono.{Mono}
use Rattle.cg_mono.specs.Monos.{copies_in}
use Rattle.cg_lower.specs.Collected.{arrows_of, Copy, list_of, types_of, added_all, called_at, Grows, part_types, value_called, with_arrows}
use Rattle.cg_lower_tables.specs.Found.{Known, with_arrow}
use Rattle.cg_lower_tables.proofs.Numbers.{covered_stays, keeps_self}
use Rattle.cg_lower_tables.specs.Added.{added}
use Rattle.cg_inst.proofs.Standing.{keeps_on}
use Rattle.cg_lower_def.specs.Structs.{IsCovered}
use Rattle.cg_inst_types.specs.Places.{Keeps}
use Rattle.cg_typing.specs.Instances.{Instance}
use Rattle.cg_lower_laws.proofs.PrintedNodes.{all_append as both_hold}
use Rattle.cg_core.proofs.Operands.{core_is}

-- ---- lists, one behind the other

pub added_both : (xs ys table : List Tau) → added_all (xs ++ ys) table ≡ added_all ys (added_all xs table)
unfolding added_all
added_both [] ys table = refl
added_both (x ∷ xs) ys table = added_both xs ys (added x table)

pub with_both : (xs ys known : List Tau) → with_arrows known (xs ++ ys) ≡ with_arrows (with_arrows known xs) ys
unfolding with_arrows
with_both [] ys known = refl
with_both (x ∷ xs) ys known = with_both xs ys (with_arrow known x)

all_stay : (old new : List Tau) → Keeps old new → (ts : List Tau) → AllByRecursion (IsCovered old) ts → AllByRecursion (IsCovered new) ts
all_stay old new kept [] h = tt
all_stay old new kept (t ∷ ts) h = (covered_stays old new kept t h.0, all_stay old new kept ts h.1)

pub flat_both : {A B : Type 0} (f : A → List B) (xs ys : List A) → flat_map f (xs ++ ys) ≡ flat_map f xs ++ flat_map f ys
flat_both f [] ys = refl
flat_both f (x ∷ xs) ys = ap (λ z. f x ++ z) (flat_both f xs ys) ∙ sym (append_assoc (f x) (flat_map f xs) (flat_map f ys))

-- ---- growth

-- nothing comes
pub grown_none : (p : Known) (table : List Tau) → Grows p p table table [] [] []
unfolding added_all with_arrows
grown_none p table = record { table_is = refl; covered = tt; kept = keeps_self table; arrows_are = refl; list_is = sym (append-nil p.list) }

-- a type comes
pub grown_type : (p q : Known) (table new : List Tau) (t : Tau) → q ≡ p → IsCovered new t → Keeps table new → new ≡ added t table → Grows p q table new (t ∷ []) [] []
unfolding added_all with_arrows
grown_type p q table new t same covered kept e =
    record { table_is = e; covered = (covered, tt); kept = kept; arrows_are = ap (λ (k : Known). k.arrows) same; list_is = ap (λ (k : Known). k.list) same ∙ sym (append-nil p.list) }

-- an arrow type comes
pub grown_arrow : (p q : Known) (table new : List Tau) (t : Tau) → new ≡ table → q.arrows ≡ with_arrow p.arrows t → q.list ≡ p.list → Grows p q table new [] (t ∷ []) []
unfolding added_all with_arrows
grown_arrow p q table new t same e l =
    record { table_is = same; covered = tt; kept = subst (Keeps table) (sym same) (keeps_self table); arrows_are = e; list_is = l ∙ sym (append-nil p.list) }

-- an instance comes
pub grown_instance : (p q : Known) (table new : List Tau) (x : Instance) → new ≡ table → q.arrows ≡ p.arrows → q.list ≡ p.list ++ x ∷ [] → Grows p q table new [] [] (x ∷ [])
unfolding added_all with_arrows
grown_instance p q table new x same e l =
    record { table_is = same; covered = tt; kept = subst (Keeps table) (sym same) (keeps_self table); arrows_are = e; list_is = l }

-- one behind the other
pub grown_both : (p q r : Known) (a b c : List Tau) (ts us rs bs : List Tau) (xs ys : List Instance)
    → Grows p q a b ts rs xs → Grows q r b c us bs ys → Grows p r a c (ts ++ us) (rs ++ bs) (xs ++ ys)
grown_both p q r a b c ts us rs bs xs ys f g = record {
  table_is = g.table_is ∙ ap (added_all us) f.table_is ∙ sym (added_both ts us a);
  covered = both_hold (IsCovered c) ts us (all_stay b c g.kept ts f.covered) g.covered;
  kept = keeps_on a b c f.kept g.kept;
  arrows_are = g.arrows_are ∙ ap (λ z. with_arrows z bs) f.arrows_are ∙ sym (with_both rs bs p.arrows);
  list_is = g.list_is ∙ ap (λ z. z ++ ys) f.list_is ∙ append_assoc p.list xs ys;
}

-- the same, of what is equal
pub grown_as : (p q : Known) (a b : List Tau) (ts us rs bs : List Tau) (xs ys : List Instance) → ts ≡ us → rs ≡ bs → xs ≡ ys → Grows p q a b ts rs xs → Grows p q a b us bs ys
grown_as p q a b ts us rs bs xs ys e f h g = subst (Grows p q a b us bs) h (subst (λ z. Grows p q a b us z xs) f (subst (λ z. Grows p q a b z rs xs) e g))

-- what comes of a call whose answer is handed on
pub handed_on : {E A B : Type 0} (r : Result Unit E) → (A → B) → OnOk r A → OnOk r B
handed_on (Ok u) f h = f h
handed_on (Err e) f h = h

-- ---- nodes

-- a function that is named, and one that isn't
pub named_called : (t : Term Typed) (s : Shape Note) → the_core_form t.form ≡ s → value_called (term (note_of t.note) s) ≡ value_called (the_core t)
named_called t s e = ap value_called (sym (core_is t ∙ ap (term (note_of t.note)) e))

pub app_called : (t : Term Typed) (f x : Tree Note) → the_core_form t.form ≡ app f x → value_called f ≡ called_at (the_core t)
app_called t f x e = ap called_at (sym (core_is t ∙ ap (term (note_of t.note)) e))

-- ---- one more of a list

module _ {A B : Type 0} (f : A → B) (xs : List A) (i : ℕ) (x : A) (within : i < length xs) (is : x ≡ get_or xs i x) where
  pub mapped_more : map f (take i xs) ++ f x ∷ [] ≡ map f (take (i + 1) xs)
  mapped_more = sym (ap (map f) (take_more xs i x within ∙ ap (λ y. take i xs ++ y ∷ []) (sym is)) ∙ map-append f (take i xs) (x ∷ []))

  pub flat_more : {C : Type 0} (g : B → List C) → flat_map g (map f (take i xs)) ++ g (f x) ≡ flat_map g (map f (take (i + 1) xs))
  flat_more g =
      ap (λ z. flat_map g (map f (take i xs)) ++ z) (sym (append-nil (g (f x)))) ∙ sym (flat_both g (map f (take i xs)) (f x ∷ [])) ∙ ap (flat_map g) mapped_more

pub types_more : (ns : List (Bor (Term Typed))) (i : ℕ) (n : Bor (Term Typed)) → i < length ns → n ≡ get_or ns i n
    → map type_at (map (λ (m : Bor (Term Typed)). the_core m.now) (take i ns)) ++ type_at (the_core n.now) ∷ [] ≡ map type_at (map (λ (m : Bor (Term Typed)). the_core m.now) (take (i + 1) ns))
types_more ns i n within is =
    sym (map-append type_at (map (λ (m : Bor (Term Typed)). the_core m.now) (take i ns)) (the_core n.now ∷ [])) ∙ ap (map type_at) (mapped_more (λ (m : Bor (Term Typed)). the_core m.now) ns i n within is)

pub called_more : (ns : List (Bor (Term Typed))) (i : ℕ) (n : Bor (Term Typed)) → i < length ns → n ≡ get_or ns i n
    → flat_map called_at (map (λ (m : Bor (Term Typed)). the_core m.now) (take i ns)) ++ called_at (the_core n.now) ≡ flat_map called_at (map (λ (m : Bor (Term Typed)). the_core m.now) (take (i + 1) ns))
called_more ns i n within is = flat_more (λ (m : Bor (Term Typed)). the_core m.now) ns i n within is called_at

pub list_more : (xs : List OneCopy) (i : ℕ) (x : OneCopy) → i < length xs → x ≡ get_or xs i x
    → list_of (map pair_of (take i xs)) ++ instance_of x.instance ∷ [] ≡ list_of (map pair_of (take (i + 1) xs))
list_more xs i x within is = sym (map-append (λ (c : Copy). c.0) (map pair_of (take i xs)) (pair_of x ∷ [])) ∙ ap list_of (mapped_more pair_of xs i x within is)

-- before the first comes
pub grown_first : (p : Known) (table : List Tau) → p.list ≡ [] → p.arrows ≡ [] → table ≡ [] → Grows (record { list = []; arrows = [] }) p [] table [] [] []
unfolding added_all with_arrows
grown_first p table l a t = record { table_is = t; covered = tt; kept = refl; arrows_are = a; list_is = l }

-- when all have come
pub collected : (m : Mono) (xs : List OneCopy) (i : ℕ) (c : Collected) → length xs ≤ i → xs ≡ copies_in m
    → Grows (record { list = []; arrows = [] }) c.places [] c.structs.table (flat_map types_of (map pair_of (take i xs))) (flat_map arrows_of (map pair_of (take i xs))) (list_of (map pair_of (take i xs)))
    → IsCollected (copies_of m) c
collected m xs i c past is g =
    let all : map pair_of (take i xs) ≡ copies_of m = ap (map pair_of) (take_all i xs past ∙ is) in record {
      list = g.list_is ∙ ap list_of all;
      arrows = g.arrows_are ∙ ap (λ z. with_arrows [] (flat_map arrows_of z)) all;
      table = g.table_is ∙ ap (λ z. added_all (flat_map types_of z) []) all;
      covered = subst (λ z. AllByRecursion (IsCovered (added_all (flat_map types_of z) [])) (flat_map types_of z)) all
          (subst (λ z. AllByRecursion (IsCovered z) (flat_map types_of (map pair_of (take i xs)))) g.table_is g.covered);
      apart = subst AreApart (sym g.arrows_are) (collected_apart (flat_map arrows_of (map pair_of (take i xs))));
    }

-- nothing comes, of what is empty
pub grown_empty : (p : Known) (table ts rs : List Tau) → ts ≡ [] → rs ≡ [] → Grows p p table table ts rs []
grown_empty p table ts rs e f = subst (λ z. Grows p p table table z rs []) (sym e) (subst (λ z. Grows p p table table [] z []) (sym f) (grown_none p table))

-- ---- parts of types

pub part_there : (ps : List Part) (i : ℕ) (p : Part) → slice_get ps i ≡ Some p → part_types i (to_parts (map part_of ps)) ≡ type_of p.ty ∷ []
unfolding part_types to_parts
part_there [] i p e = absurd (cc)
part_there (q ∷ ps) zero p e = let s : q ≡ p = cc in ap (λ (r : Piece). r.ty ∷ []) (piece_of q) ∙ ap (λ (r : Part). type_of r.ty ∷ []) s
part_there (q ∷ ps) (suc i) p e = part_there ps i p e

pub part_past : (ps : List Part) (i : ℕ) → slice_get ps i ≡ None → part_types i (to_parts (map part_of ps)) ≡ []
unfolding part_types to_parts
part_past [] i e = refl
part_past (q ∷ ps) zero e = absurd (cc)
part_past (q ∷ ps) (suc i) e = part_past ps i e

pub ruleset collect_steps = (grown_type, grown_arrow, grown_instance, grown_none, core_lemmas, type_lemmas)
