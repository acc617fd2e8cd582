-- Events of two certificates over one kernel whose first nodes are the same: terms by their forms, and records.
use Rattle.std.proofs.Common.{ℕ, suc, ◌+◌, Bool, true, ◌&&◌, Option, Some, None, List, [], ◌∷◌, ◌++◌, drop, ap, ap₂, arith}
use Rattle.cg_base.specs.declared.fun.Fun.{Fun}
use Rattle.cg_base.specs.declared.kind.Kinds.{Kinds}
use Rattle.cg_base.specs.declared.place.Place.{Place}
use Rattle.cg_base.specs.Types as types
use Rattle.cg_base.specs.Types.{Tau}
use Rattle.cg_cert.specs.declared.cert.CertNode.{CertNode}
use Rattle.cg_core.specs.declared.at.At.{At}
use Rattle.cg_core.specs.declared.derivation.Mark.{Mark}
use Rattle.cg_core.specs.declared.derivation.Node.TheVariants as nodes
use Rattle.cg_core.specs.declared.op.Op.{Op}
use Rattle.cg_core.specs.declared.term.Seen.{Seen}
use Rattle.cg_core.specs.Kernels.{Function}
use Rattle.cg_core.specs.Terms.{Tree, term, Shape, var, unit, bool, lit, fun, op, app, lets, let_bang, if_else, con, case_of, esac, struct, member, take_field, put, cast, annot, none, more, Named, end, field, Arg}
use Rattle.cg_faults.specs.Events.{field_directions, next_direction, later_directions}
use Rattle.cg_faults.specs.Plain.{plain, plain_at, observed, mentioned}
use Rattle.cg_certcheck_def.specs.Events.{Event, events, events_shape, field_events, size, behind, strings_at, marks_next, field_strings, reached, leaf_reached, split_reached, guided_reached, guided_number, value_of, meets, is_number, alternative_held}
use Rattle.cg_certcheck_def.specs.Tests.{is_present, drops_all, drops_but}
use Rattle.cg_typing.specs.Contexts.{Context, look, push, first, second}
use Rattle.cg_typing.specs.Functions.{asked_by, are_good_arguments}
use Rattle.cg_typing.specs.Operators.{sort_of}
use Rattle.cg_typing.specs.Parts.{taken_by, field_in, alternative_in, held, with_part}
use Rattle.cg_typing.specs.Rules.{is_literal, second_branch}
use Rattle.cg_typing.specs.Trees.{first_marks, later_marks}
use Rattle.cg_certcheck_laws.proofs.Alike.{Alike, alike_append, no_more, same_event, own_row, SameFrom, SameAt, same_strings, same_behind, same_past, same_later, same_ap, same_first, same_second, alike_reached, alike_leaf, alike_split, alike_guided, alike_unary, alike_binary}

module _ (functions : List Function) (vars : List Kinds) (bound : ℕ) where
  abbrev E : Context → List Tau → Option Tau → List CertNode → ℕ → Tree Place → List Event
  E = events functions vars

  -- over two lists of nodes and two contexts that are the same before the bound
  abbrev pub AlikeTerm : Tree Place → Type 0
  AlikeTerm e = (g k : Context) (p : List Tau) (dir : Option Tau) (ns ms : List CertNode) (n : ℕ) → SameFrom bound n ns ms → SameAt bound n g k
      → Alike bound (E g p dir ns n e) (E k p dir ms n e)

  abbrev AlikeShape : Shape Place → Type 0
  AlikeShape s = (g k : Context) (p : List Tau) (dir : Option Tau) (ns ms : List CertNode) (n : ℕ) → SameFrom bound n ns ms → SameAt bound n g k
      → Alike bound (events_shape functions vars g p dir ns n s) (events_shape functions vars k p dir ms n s)

  abbrev AlikeFields : Named Place → Type 0
  AlikeFields fs = (g k : Context) (p : List Tau) (dirs : List (Option Tau)) (strings others : List (List Mark)) (ns ms : List CertNode) (n : ℕ) → SameFrom bound n ns ms → SameAt bound n g k
      → SameAt bound n strings others → Alike bound (field_events functions vars g p dirs strings ns n fs) (field_events functions vars k p dirs others ms n fs)

  -- ---- parts, in the contexts that a node's marks leave

  module _ (g k : Context) (p : List Tau) (ns ms : List CertNode) (n : ℕ) (h : SameFrom bound n ns ms) (e : SameAt bound n g k) where
    -- the first one, and one in the whole context
    in_first : (x : Tree Place) → AlikeTerm x → (q : List Tau) (dir : Option Tau)
        → Alike bound (E (first (marks_next ns) g) q dir (behind ns) (suc n) x) (E (first (marks_next ms) k) q dir (behind ms) (suc n) x)
    in_first x f q dir =
        f (first (marks_next ns) g) (first (marks_next ms) k) q dir (behind ns) (behind ms) (suc n) (same_behind bound n ns ms h)
        (same_later bound n (suc n) (omega arith) (same_first bound n (strings_at ns) (strings_at ms) g k (same_strings bound n ns ms h) e))

    in_whole : (x : Tree Place) → AlikeTerm x → (q : List Tau) (dir : Option Tau) → Alike bound (E g q dir (behind ns) (suc n) x) (E k q dir (behind ms) (suc n) x)
    in_whole x f q dir = f g k q dir (behind ns) (behind ms) (suc n) (same_behind bound n ns ms h) (same_later bound n (suc n) (omega arith) e)

    -- one that stands so many nodes later, in what a split leaves it and what is bound
    in_second : (x : Tree Place) → AlikeTerm x → (so_far : ℕ) (binds : Context → Context) (q : List Tau) (dir : Option Tau)
        → Alike bound (E (binds (second (marks_next ns) g)) q dir (drop so_far (behind ns)) (suc n + so_far) x) (E (binds (second (marks_next ms) k)) q dir (drop so_far (behind ms)) (suc n + so_far) x)
    in_second x f so_far binds q dir =
        f (binds (second (marks_next ns) g)) (binds (second (marks_next ms) k)) q dir (drop so_far (behind ns)) (drop so_far (behind ms)) (suc n + so_far)
        (same_past bound (suc n) so_far (behind ns) (behind ms) (same_behind bound n ns ms h))
        (same_later bound n (suc n + so_far) (omega arith)
        (same_ap bound n binds (same_second bound n (strings_at ns) (strings_at ms) g k (same_strings bound n ns ms h) e)))

  -- ---- leaves

  alike_var : (i : ℕ) → AlikeShape (var i)
  alike_var i g k p dir ns ms n h e =
      alike_append (leaf_reached n ns nodes.Var) (leaf_reached n ms nodes.Var) (alike_leaf bound n ns ms nodes.Var h)
      (own_row n _ _ (λ lt. ap (λ z. is_present (look z i) && (drops_but vars i z && meets dir (plain_at p i))) (e lt)) no_more)

  alike_unit : AlikeShape unit
  alike_unit g k p dir ns ms n h e =
      alike_append (leaf_reached n ns nodes.Unit) (leaf_reached n ms nodes.Unit) (alike_leaf bound n ns ms nodes.Unit h) (own_row n _ _ (λ lt. ap (λ z. drops_all vars z && meets dir types.unit) (e lt)) no_more)

  alike_bool : (v : Bool) → AlikeShape (bool v)
  alike_bool v g k p dir ns ms n h e =
      alike_append (leaf_reached n ns nodes.Bool) (leaf_reached n ms nodes.Bool) (alike_leaf bound n ns ms nodes.Bool h) (own_row n _ _ (λ lt. ap (λ z. drops_all vars z && meets dir types.bool) (e lt)) no_more)

  alike_lit : (v : Option ℕ) → AlikeShape (lit v)
  alike_lit v g k p dir ns ms n h e =
      alike_append (leaf_reached n ns nodes.Lit) (leaf_reached n ms nodes.Lit) (alike_leaf bound n ns ms nodes.Lit h) (own_row n _ _ (λ lt. ap (λ z. drops_all vars z && is_number v dir) (e lt)) no_more)

  alike_fun : (f : Fun) (args : List Arg) → AlikeShape (fun f args)
  alike_fun f args g k p dir ns ms n h e =
      alike_append (leaf_reached n ns nodes.Fun) (leaf_reached n ms nodes.Fun) (alike_leaf bound n ns ms nodes.Fun h)
      (own_row n _ _ (λ lt. ap (λ z. drops_all vars z && (are_good_arguments vars (asked_by functions f) args && meets dir (mentioned functions f args))) (e lt)) no_more)

  -- ---- operators

  alike_one : (o : Op) (x : Tree Place) → AlikeTerm x → AlikeShape (op o (more x none))
  alike_one o x f g k p dir ns ms n h e =
      alike_append (leaf_reached n ns nodes.Op) (leaf_reached n ms nodes.Op) (alike_leaf bound n ns ms nodes.Op h)
      (alike_unary bound (sort_of o) dir n (plain functions p x) (λ way. E g p way (behind ns) (suc n) x) (λ way. E k p way (behind ms) (suc n) x) (in_whole g k p ns ms n h e x f p))

  alike_two : (o : Op) (l r : Tree Place) → AlikeTerm l → AlikeTerm r → AlikeShape (op o (more l (more r none)))
  alike_two o l r fl fr g k p dir ns ms n h e =
      let left = same_later bound n (suc n) (omega arith) (same_first bound n (strings_at ns) (strings_at ms) g k (same_strings bound n ns ms h) e) in
      alike_append (split_reached vars n ns nodes.Op [] g) (split_reached vars n ms nodes.Op [] k) (alike_split bound vars n ns ms nodes.Op [] g k h e)
      (alike_binary bound n (plain functions p l) (plain functions p r) (λ way. E (first (marks_next ns) g) p way (behind ns) (suc n) l)
      (λ way. E (second (marks_next ns) g) p way (drop (size l) (behind ns)) (suc n + size l) r) (λ way. E (first (marks_next ms) k) p way (behind ms) (suc n) l)
      (λ way. E (second (marks_next ms) k) p way (drop (size l) (behind ms)) (suc n + size l) r) (guided_reached vars (suc n) (behind ns) (first (marks_next ns) g))
      (guided_reached vars (suc n) (behind ms) (first (marks_next ms) k)) (guided_number (suc n) (value_of l)) (in_first g k p ns ms n h e l fl p)
      (in_second g k p ns ms n h e r fr (size l) (λ z. z) p)
      (alike_guided bound vars (suc n) (behind ns) (behind ms) (first (marks_next ns) g) (first (marks_next ms) k) (same_behind bound n ns ms h) left) (sort_of o) dir (is_literal l))

  -- ---- two parts and three

  alike_app : (f x : Tree Place) → AlikeTerm f → AlikeTerm x → AlikeShape (app f x)
  alike_app f x af ax g k p dir ns ms n h e =
      alike_append (split_reached vars n ns nodes.App [] g) (split_reached vars n ms nodes.App [] k) (alike_split bound vars n ns ms nodes.App [] g k h e)
      (alike_append (E (first (marks_next ns) g) p None (behind ns) (suc n) f) (E (first (marks_next ms) k) p None (behind ms) (suc n) f) (in_first g k p ns ms n h e f af p None)
      (same_event _ (alike_append (E (second (marks_next ns) g) p (Some (taken_by (plain functions p f))) (drop (size f) (behind ns)) (suc n + size f) x)
      (E (second (marks_next ms) k) p (Some (taken_by (plain functions p f))) (drop (size f) (behind ms)) (suc n + size f) x)
      (in_second g k p ns ms n h e x ax (size f) (λ z. z) p (Some (taken_by (plain functions p f)))) (same_event _ no_more))))

  alike_put : (x : Tree Place) (at : At) (y : Tree Place) → AlikeTerm x → AlikeTerm y → AlikeShape (put x at y)
  alike_put x at y ax ay g k p dir ns ms n h e =
      let way = Some (held (field_in at.name (plain functions p x))) in
      alike_append (split_reached vars n ns nodes.Put [] g) (split_reached vars n ms nodes.Put [] k) (alike_split bound vars n ns ms nodes.Put [] g k h e)
      (alike_append (E (first (marks_next ns) g) p None (behind ns) (suc n) x) (E (first (marks_next ms) k) p None (behind ms) (suc n) x) (in_first g k p ns ms n h e x ax p None)
      (same_event _ (alike_append (E (second (marks_next ns) g) p way (drop (size x) (behind ns)) (suc n + size x) y) (E (second (marks_next ms) k) p way (drop (size x) (behind ms)) (suc n + size x) y)
      (in_second g k p ns ms n h e y ay (size x) (λ z. z) p way) (same_event _ no_more))))

  alike_let : (v : Place) (x y : Tree Place) → AlikeTerm x → AlikeTerm y → AlikeShape (lets v x y)
  alike_let v x y ax ay g k p dir ns ms n h e =
      let t = plain functions p x in
      alike_append (split_reached vars n ns nodes.Let [] g) (split_reached vars n ms nodes.Let [] k) (alike_split bound vars n ns ms nodes.Let [] g k h e)
      (alike_append (E (first (marks_next ns) g) p None (behind ns) (suc n) x) (E (first (marks_next ms) k) p None (behind ms) (suc n) x) (in_first g k p ns ms n h e x ax p None)
      (in_second g k p ns ms n h e y ay (size x) (λ z. push z (Some t)) (push p t) dir))

  alike_let_bang : (os : List Seen) (v : Place) (x y : Tree Place) → AlikeTerm x → AlikeTerm y → AlikeShape (let_bang os v x y)
  alike_let_bang os v x y ax ay g k p dir ns ms n h e =
      let q = observed os p in
      let t = plain functions q x in
      alike_append (split_reached vars n ns nodes.LetBang os g) (split_reached vars n ms nodes.LetBang os k) (alike_split bound vars n ns ms nodes.LetBang os g k h e)
      (alike_append (E (first (marks_next ns) g) q None (behind ns) (suc n) x) (E (first (marks_next ms) k) q None (behind ms) (suc n) x) (in_first g k p ns ms n h e x ax q None)
      (same_event _ (in_second g k p ns ms n h e y ay (size x) (λ z. push z (Some t)) (push p t) dir)))

  alike_take : (x : Tree Place) (at : At) (v z : Place) (y : Tree Place) → AlikeTerm x → AlikeTerm y → AlikeShape (take_field x at v z y)
  alike_take x at v z y ax ay g k p dir ns ms n h e =
      let s = plain functions p x in
      let t = with_part at.name true s in
      let u = held (field_in at.name s) in
      alike_append (split_reached vars n ns nodes.Take [] g) (split_reached vars n ms nodes.Take [] k) (alike_split bound vars n ns ms nodes.Take [] g k h e)
      (alike_append (E (first (marks_next ns) g) p None (behind ns) (suc n) x) (E (first (marks_next ms) k) p None (behind ms) (suc n) x) (in_first g k p ns ms n h e x ax p None)
      (same_event _ (in_second g k p ns ms n h e y ay (size x) (λ w. push (push w (Some t)) (Some u)) (push (push p t) u) dir)))

  alike_if : (c x y : Tree Place) → AlikeTerm c → AlikeTerm x → AlikeTerm y → AlikeShape (if_else c x y)
  alike_if c x y ac ax ay g k p dir ns ms n h e =
      alike_append (split_reached vars n ns nodes.If [] g) (split_reached vars n ms nodes.If [] k) (alike_split bound vars n ns ms nodes.If [] g k h e)
      (alike_append (E (first (marks_next ns) g) p (Some types.bool) (behind ns) (suc n) c) (E (first (marks_next ms) k) p (Some types.bool) (behind ms) (suc n) c)
      (in_first g k p ns ms n h e c ac p (Some types.bool))
      (alike_append (E (second (marks_next ns) g) p dir (drop (size c) (behind ns)) (suc n + size c) x) (E (second (marks_next ms) k) p dir (drop (size c) (behind ms)) (suc n + size c) x)
      (in_second g k p ns ms n h e x ax (size c) (λ z. z) p dir)
      (in_second g k p ns ms n h e y ay (size c + size x) (λ z. z) p (second_branch dir (plain functions p x)))))

  alike_case : (c : Tree Place) (at : At) (v : Place) (x y : Tree Place) → AlikeTerm c → AlikeTerm x → AlikeTerm y → AlikeShape (case_of c at v x y)
  alike_case c at v x y ac ax ay g k p dir ns ms n h e =
      let s = plain functions p c in
      let t = held (alternative_in at.name s) in
      let u = with_part at.name true s in
      alike_append (split_reached vars n ns nodes.Case [] g) (split_reached vars n ms nodes.Case [] k) (alike_split bound vars n ns ms nodes.Case [] g k h e)
      (alike_append (E (first (marks_next ns) g) p None (behind ns) (suc n) c) (E (first (marks_next ms) k) p None (behind ms) (suc n) c) (in_first g k p ns ms n h e c ac p None)
      (same_event _ (alike_append (E (push (second (marks_next ns) g) (Some t)) (push p t) dir (drop (size c) (behind ns)) (suc n + size c) x)
      (E (push (second (marks_next ms) k) (Some t)) (push p t) dir (drop (size c) (behind ms)) (suc n + size c) x)
      (in_second g k p ns ms n h e x ax (size c) (λ z. push z (Some t)) (push p t) dir)
      (in_second g k p ns ms n h e y ay (size c + size x) (λ z. push z (Some u)) (push p u) (second_branch dir (plain functions (push p t) x))))))

  -- ---- one part

  alike_con : (name : List ℕ) (x : Tree Place) → AlikeTerm x → AlikeShape (con name x)
  alike_con name x f g k p dir ns ms n h e =
      alike_append (leaf_reached n ns nodes.Con) (leaf_reached n ms nodes.Con) (alike_leaf bound n ns ms nodes.Con h)
      (same_event _ (in_whole g k p ns ms n h e x f p (Some (alternative_held name dir))))

  -- the part and then a row of the kernel alone
  and_row : (x : Tree Place) → AlikeTerm x → (g k : Context) (p : List Tau) (dir : Option Tau) (ns ms : List CertNode) (n : ℕ) → SameFrom bound n ns ms → SameAt bound n g k → (y : Event)
      → Alike bound (E g p dir (behind ns) (suc n) x ++ (y ∷ [])) (E k p dir (behind ms) (suc n) x ++ (y ∷ []))
  and_row x f g k p dir ns ms n h e y =
      alike_append (E g p dir (behind ns) (suc n) x) (E k p dir (behind ms) (suc n) x) (in_whole g k p ns ms n h e x f p dir) (same_event y no_more)

  alike_esac : (at : At) (x : Tree Place) → AlikeTerm x → AlikeShape (esac at x)
  alike_esac at x f g k p dir ns ms n h e =
      alike_append (leaf_reached n ns nodes.Esac) (leaf_reached n ms nodes.Esac) (alike_leaf bound n ns ms nodes.Esac h) (and_row x f g k p None ns ms n h e _)

  alike_member : (x : Tree Place) (at : At) → AlikeTerm x → AlikeShape (member x at)
  alike_member x at f g k p dir ns ms n h e =
      alike_append (leaf_reached n ns nodes.Member) (leaf_reached n ms nodes.Member) (alike_leaf bound n ns ms nodes.Member h) (and_row x f g k p None ns ms n h e _)

  alike_cast : (x : Tree Place) → AlikeTerm x → AlikeShape (cast x)
  alike_cast x f g k p dir ns ms n h e =
      alike_append (leaf_reached n ns nodes.Cast) (leaf_reached n ms nodes.Cast) (alike_leaf bound n ns ms nodes.Cast h) (same_event _ (and_row x f g k p None ns ms n h e _))

  alike_annot : (x : Tree Place) (a : Arg) → AlikeTerm x → AlikeShape (annot x a)
  alike_annot x a f g k p dir ns ms n h e =
      alike_append (leaf_reached n ns nodes.Annot) (leaf_reached n ms nodes.Annot) (alike_leaf bound n ns ms nodes.Annot h) (same_event _ (and_row x f g k p (Some a.ty) ns ms n h e _))

  -- ---- records

  alike_field : (name : List ℕ) (x : Tree Place) (later : List ℕ) (y : Tree Place) (fs : Named Place) → AlikeTerm x → AlikeFields (field later y fs) → AlikeFields (field name x (field later y fs))
  alike_field name x later y fs f ff g k p dirs strings others ns ms n h e s =
      alike_append (E (first (first_marks strings) g) p (next_direction dirs) ns n x) (E (first (first_marks others) k) p (next_direction dirs) ms n x)
      (f (first (first_marks strings) g) (first (first_marks others) k) p (next_direction dirs) ns ms n h (same_first bound n strings others g k s e))
      (ff (second (first_marks strings) g) (second (first_marks others) k) p (later_directions dirs) (later_marks strings) (later_marks others) (drop (size x) ns) (drop (size x) ms) (n + size x)
      (same_past bound n (size x) ns ms h) (same_later bound n (n + size x) (omega arith) (same_second bound n strings others g k s e))
      (same_later bound n (n + size x) (omega arith) (same_ap bound n later_marks s)))

  alike_struct : (fs : Named Place) → AlikeFields fs → AlikeShape (struct fs)
  alike_struct fs f g k p dir ns ms n h e =
      let s = same_strings bound n ns ms h in
      alike_append (reached n ns nodes.Struct (field_strings vars fs (strings_at ns) g)) (reached n ms nodes.Struct (field_strings vars fs (strings_at ms) k))
      (alike_reached bound n ns ms nodes.Struct (field_strings vars fs (strings_at ns) g) (field_strings vars fs (strings_at ms) k) h (λ lt. ap₂ (λ z w. field_strings vars fs z w) (s lt) (e lt)))
      (same_event _ (f g k p (field_directions dir) (strings_at ns) (strings_at ms) (behind ns) (behind ms) (suc n) (same_behind bound n ns ms h) (same_later bound n (suc n) (omega arith) e)
      (same_later bound n (suc n) (omega arith) s)))

  -- ---- terms

  by_shape : (a : Place) (s : Shape Place) → AlikeShape s → AlikeTerm (term a s)
  by_shape a s f g k p dir ns ms n h e =
      alike_append (events_shape functions vars g p dir ns n s) (events_shape functions vars k p dir ms n s) (f g k p dir ns ms n h e) (same_event _ no_more)

  mutual
    pub alike_term : (x : Tree Place) → AlikeTerm x
    alike_term (term a s) = by_shape a s (alike_shape s)

    alike_shape : (s : Shape Place) → AlikeShape s
    alike_shape (var i) = alike_var i
    alike_shape unit = alike_unit
    alike_shape (bool v) = alike_bool v
    alike_shape (lit v) = alike_lit v
    alike_shape (fun f args) = alike_fun f args
    alike_shape (op o none) = λ g k p dir ns ms n h e. (same_event _ no_more)
    alike_shape (op o (more x none)) = alike_one o x (alike_term x)
    alike_shape (op o (more l (more r none))) = alike_two o l r (alike_term l) (alike_term r)
    alike_shape (op o (more l (more r (more x ts)))) = λ g k p dir ns ms n h e. (same_event _ no_more)
    alike_shape (app f x) = alike_app f x (alike_term f) (alike_term x)
    alike_shape (lets v x y) = alike_let v x y (alike_term x) (alike_term y)
    alike_shape (let_bang os v x y) = alike_let_bang os v x y (alike_term x) (alike_term y)
    alike_shape (if_else c x y) = alike_if c x y (alike_term c) (alike_term x) (alike_term y)
    alike_shape (con name x) = alike_con name x (alike_term x)
    alike_shape (case_of c at v x y) = alike_case c at v x y (alike_term c) (alike_term x) (alike_term y)
    alike_shape (esac at x) = alike_esac at x (alike_term x)
    alike_shape (struct fs) = alike_struct fs (alike_fields fs)
    alike_shape (member x at) = alike_member x at (alike_term x)
    alike_shape (take_field x at v z y) = alike_take x at v z y (alike_term x) (alike_term y)
    alike_shape (put x at y) = alike_put x at y (alike_term x) (alike_term y)
    alike_shape (cast x) = alike_cast x (alike_term x)
    alike_shape (annot x a) = alike_annot x a (alike_term x)

    alike_fields : (fs : Named Place) → AlikeFields fs
    alike_fields end = λ g k p dirs strings others ns ms n h e s. no_more
    alike_fields (field name x end) = λ g k p dirs strings others ns ms n h e s. alike_term x g k p (next_direction dirs) ns ms n h e
    alike_fields (field name x (field later y fs)) = alike_field name x later y fs (alike_term x) (alike_fields (field later y fs))
