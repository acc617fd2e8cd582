-- Where the first fault that names a node points: terms by their forms, and records.
use Rattle.std.proofs.Common.{◌≡◌, ℕ, suc, ◌+◌, ◌≤◌, Bool, true, Option, Some, None, List, [], ◌∷◌, ◌++◌, length, map, drop, arith}
use Rattle.cg_base.specs.declared.kind.Kinds.{Kinds}
use Rattle.cg_base.specs.declared.place.Place.{Place}
use Rattle.cg_base.specs.Types as types
use Rattle.cg_base.specs.Types.{Tau}
use Rattle.cg_cert.specs.declared.cert.CertNode.{CertNode}
use Rattle.cg_core.specs.declared.at.At.{At}
use Rattle.cg_core.specs.declared.derivation.Mark.{Mark}
use Rattle.cg_core.specs.declared.derivation.Node.{Node}
use Rattle.cg_core.specs.declared.derivation.Node.TheVariants as nodes
use Rattle.cg_core.specs.declared.op.Op.{Op}
use Rattle.cg_core.specs.declared.term.Seen.{Seen}
use Rattle.cg_core.specs.Kernels.{Function}
use Rattle.cg_core.specs.Terms.{Tree, term, Shape, var, unit, bool, lit, fun, op, app, lets, let_bang, if_else, con, case_of, esac, struct, member, take_field, put, cast, annot, none, more, Named, end, field, Arg}
use Rattle.cg_core_def.specs.Lawful.{AreLawfulFields}
use Rattle.cg_faults.specs.Events.{field_directions, next_direction, later_directions}
use Rattle.cg_faults.specs.Plain.{plain, plain_in, observed}
use Rattle.cg_certcheck_def.specs.Events.{Event, events, events_shape, field_events, size, size_below, field_sizes, row, within, behind, strings_at, marks_next, no_strings, one_string, field_strings, leaf_reached, split_reached, reached, guided_reached, guided_number, value_of, is_record, alternative_held}
use Rattle.cg_typing.specs.Contexts.{Context, push, first, second}
use Rattle.cg_typing.specs.Operators.{sort_of}
use Rattle.cg_typing.specs.Parts.{in_range, taken_by, field_in, alternative_in, held, with_part}
use Rattle.cg_typing.specs.Rules.{is_literal, second_branch}
use Rattle.cg_typing.specs.Trees.{first_marks, later_marks}
use Rattle.cg_check_laws.proofs.Clash.{Lawful, at_least_one, at_most_two}
use Rattle.cg_certcheck_laws.proofs.Placed.{Stretch, Guides, and_then, nothing, at_row, at_node, at_limit, as_many, in_front, later_on, from_there, at_reached, at_guided, at_unary, at_binary}

size_some : (x : Tree Place) → 1 ≤ size x
size_some (term a s) = omega arith

module _ (functions : List Function) (vars : List Kinds) where
  abbrev E : Context → List Tau → Option Tau → List CertNode → ℕ → Tree Place → List Event
  E = events functions vars

  -- the events of a term judge as many nodes as it has
  abbrev pub PlacedTerm : Tree Place → Type 0
  PlacedTerm x = (g : Context) (p : List Tau) (dir : Option Tau) (ns : List CertNode) (n : ℕ) → Stretch ns n 0 (size x) (E g p dir ns n x)

  abbrev PlacedShape : Shape Place → Type 0
  PlacedShape s = (g : Context) (p : List Tau) (dir : Option Tau) (ns : List CertNode) (n : ℕ) → Stretch ns n 0 (suc (size_below s)) (events_shape functions vars g p dir ns n s)

  abbrev PlacedFields : Named Place → Type 0
  PlacedFields fs = (g : Context) (p : List Tau) (dirs : List (Option Tau)) (strings : List (List Mark)) (ns : List CertNode) (n : ℕ)
      → Stretch ns n 0 (field_sizes fs) (field_events functions vars g p dirs strings ns n fs)

  module _ (ns : List CertNode) (n : ℕ) where
    -- a node with its row, and no parts
    leaf : (node : Node) (x : Bool) → Stretch ns n 0 1 (leaf_reached n ns node ++ (row n x ∷ []))
    leaf node x = and_then (leaf_reached n ns node) (row n x ∷ []) (at_reached node (no_strings ns)) (at_node x (omega arith))

    -- behind a node that is reached, and behind a row of it
    below : {s : ℕ} (node : Node) (rest : List Event) → Stretch ns n 1 s rest → Stretch ns n 0 s (leaf_reached n ns node ++ rest)
    below node rest h = and_then (leaf_reached n ns node) rest (at_reached node (no_strings ns)) h

    split : {s : ℕ} (node : Node) (os : List Seen) (g : Context) (rest : List Event) → Stretch ns n 1 s rest → Stretch ns n 0 s (split_reached vars n ns node os g ++ rest)
    split node os g rest h = and_then (split_reached vars n ns node os g) rest (at_reached node (one_string vars os (strings_at ns) g)) h

    judged : {a b : ℕ} (x : Bool) (rest : List Event) → 1 ≤ a → Stretch ns n a b rest → Stretch ns n a b (row n x ∷ rest)
    judged x rest le h = and_then (row n x ∷ []) rest (at_node x le) h

    guides : (g : Context) (l r : Tree Place) → is_literal l ≡ true
        → Guides ns n (size l) (size r) (guided_reached vars (suc n) (behind ns) g) (guided_number (suc n) (value_of l))
    guides g (term a (lit v)) r q = record {
      reached = in_front (guided_reached vars (suc n) (behind ns) g) (at_guided vars g);
      judged = λ t. and_then (row (suc n) (in_range v t) ∷ []) (within t ∷ []) (at_row (suc n) (in_range v t) (omega arith) (omega arith)) (at_limit t);
    }
    guides g _ r q = absurd (cc)

  -- ---- operators

  one_operand : (o : Op) (x : Tree Place) → PlacedTerm x → PlacedShape (op o (more x none))
  one_operand o x f g p dir ns n =
      as_many (omega arith) (below ns n nodes.Op _ (at_unary (sort_of o) dir (plain functions p x) (λ way. E g p way (behind ns) (suc n) x)
      (λ way. in_front (E g p way (behind ns) (suc n) x) (f g p way (behind ns) (suc n)))))

  two_operands : (o : Op) (l r : Tree Place) → PlacedTerm l → PlacedTerm r → PlacedShape (op o (more l (more r none)))
  two_operands o l r fl fr g p dir ns n =
      let g1 = first (marks_next ns) g in
      let g2 = second (marks_next ns) g in
      let later = drop (size l) (behind ns) in
      as_many (omega arith) (split ns n nodes.Op [] g _ (at_binary (size l) (size r) (plain functions p l) (plain functions p r) (λ way. E g1 p way (behind ns) (suc n) l)
      (λ way. E g2 p way later (suc n + size l) r) (guided_reached vars (suc n) (behind ns) g1) (guided_number (suc n) (value_of l))
      (λ way. in_front (E g1 p way (behind ns) (suc n) l) (fl g1 p way (behind ns) (suc n)))
      (λ way. later_on (size l) (E g2 p way later (suc n + size l) r) (fr g2 p way later (suc n + size l))) (sort_of o) dir (is_literal l) (guides ns n g1 l r)))

  -- ---- two parts and three

  module _ (ns : List CertNode) (n : ℕ) where
    first_part : {b : ℕ} (x : Tree Place) → PlacedTerm x → (g : Context) (p : List Tau) (dir : Option Tau) (rest : List Event) → Stretch ns n (suc (size x)) b rest
        → Stretch ns n 1 b (E g p dir (behind ns) (suc n) x ++ rest)
    first_part x f g p dir rest h =
        and_then (E g p dir (behind ns) (suc n) x) rest (in_front (E g p dir (behind ns) (suc n) x) (f g p dir (behind ns) (suc n))) h

    later_part : (x : Tree Place) → PlacedTerm x → (so_far : ℕ) (g : Context) (p : List Tau) (dir : Option Tau)
        → Stretch ns n (suc so_far) (suc (so_far + size x)) (E g p dir (drop so_far (behind ns)) (suc n + so_far) x)
    later_part x f so_far g p dir = later_on so_far (E g p dir (drop so_far (behind ns)) (suc n + so_far) x) (f g p dir (drop so_far (behind ns)) (suc n + so_far))

    -- it, and then a row of the node
    later_closed : (x : Tree Place) → PlacedTerm x → (so_far : ℕ) (g : Context) (p : List Tau) (dir : Option Tau) (holds : Bool)
        → Stretch ns n (suc so_far) (suc (so_far + size x)) (E g p dir (drop so_far (behind ns)) (suc n + so_far) x ++ (row n holds ∷ []))
    later_closed x f so_far g p dir holds =
        and_then (E g p dir (drop so_far (behind ns)) (suc n + so_far) x) (row n holds ∷ []) (later_part x f so_far g p dir) (at_node holds (omega arith))

  place_app : (f x : Tree Place) → PlacedTerm f → PlacedTerm x → PlacedShape (app f x)
  place_app f x pf px g p dir ns n =
      split ns n nodes.App [] g _ (first_part ns n f pf (first (marks_next ns) g) p None _
      (judged ns n _ _ (omega arith) (later_closed ns n x px (size f) (second (marks_next ns) g) p (Some (taken_by (plain functions p f))) _)))

  place_put : (x : Tree Place) (at : At) (y : Tree Place) → PlacedTerm x → PlacedTerm y → PlacedShape (put x at y)
  place_put x at y px py g p dir ns n =
      split ns n nodes.Put [] g _ (first_part ns n x px (first (marks_next ns) g) p None _
      (judged ns n _ _ (omega arith) (later_closed ns n y py (size x) (second (marks_next ns) g) p (Some (held (field_in at.name (plain functions p x)))) _)))

  place_let : (v : Place) (x y : Tree Place) → PlacedTerm x → PlacedTerm y → PlacedShape (lets v x y)
  place_let v x y px py g p dir ns n =
      let t = plain functions p x in
      split ns n nodes.Let [] g _ (first_part ns n x px (first (marks_next ns) g) p None _ (later_part ns n y py (size x) (push (second (marks_next ns) g) (Some t)) (push p t) dir))

  place_let_bang : (os : List Seen) (v : Place) (x y : Tree Place) → PlacedTerm x → PlacedTerm y → PlacedShape (let_bang os v x y)
  place_let_bang os v x y px py g p dir ns n =
      let q = observed os p in
      let t = plain functions q x in
      split ns n nodes.LetBang os g _ (first_part ns n x px (first (marks_next ns) g) q None _
      (judged ns n _ _ (omega arith) (later_part ns n y py (size x) (push (second (marks_next ns) g) (Some t)) (push p t) dir)))

  place_take : (x : Tree Place) (at : At) (v z : Place) (y : Tree Place) → PlacedTerm x → PlacedTerm y → PlacedShape (take_field x at v z y)
  place_take x at v z y px py g p dir ns n =
      let s = plain functions p x in
      let t = with_part at.name true s in
      let u = held (field_in at.name s) in
      split ns n nodes.Take [] g _ (first_part ns n x px (first (marks_next ns) g) p None _
      (judged ns n _ _ (omega arith) (later_part ns n y py (size x) (push (push (second (marks_next ns) g) (Some t)) (Some u)) (push (push p t) u) dir)))

  place_if : (c x y : Tree Place) → PlacedTerm c → PlacedTerm x → PlacedTerm y → PlacedShape (if_else c x y)
  place_if c x y pc px py g p dir ns n =
      let g2 = second (marks_next ns) g in
      let way = second_branch dir (plain functions p x) in
      as_many (omega arith) (split ns n nodes.If [] g _ (first_part ns n c pc (first (marks_next ns) g) p (Some types.bool) _
      (and_then (E g2 p dir (drop (size c) (behind ns)) (suc n + size c) x) (E g2 p way (drop (size c + size x) (behind ns)) (suc n + (size c + size x)) y)
      (later_part ns n x px (size c) g2 p dir) (later_part ns n y py (size c + size x) g2 p way))))

  place_case : (c : Tree Place) (at : At) (v : Place) (x y : Tree Place) → PlacedTerm c → PlacedTerm x → PlacedTerm y → PlacedShape (case_of c at v x y)
  place_case c at v x y pc px py g p dir ns n =
      let s = plain functions p c in
      let t = held (alternative_in at.name s) in
      let u = with_part at.name true s in
      let g2 = second (marks_next ns) g in
      let way = second_branch dir (plain functions (push p t) x) in
      as_many (omega arith) (split ns n nodes.Case [] g _ (first_part ns n c pc (first (marks_next ns) g) p None _
      (judged ns n _ _ (omega arith) (and_then (E (push g2 (Some t)) (push p t) dir (drop (size c) (behind ns)) (suc n + size c) x)
      (E (push g2 (Some u)) (push p u) way (drop (size c + size x) (behind ns)) (suc n + (size c + size x)) y)
      (later_part ns n x px (size c) (push g2 (Some t)) (push p t) dir) (later_part ns n y py (size c + size x) (push g2 (Some u)) (push p u) way)))))

  -- ---- one part

  part_closed : (ns : List CertNode) (n : ℕ) (x : Tree Place) → PlacedTerm x → (g : Context) (p : List Tau) (dir : Option Tau) (holds : Bool)
      → Stretch ns n 1 (suc (size x)) (E g p dir (behind ns) (suc n) x ++ (row n holds ∷ []))
  part_closed ns n x f g p dir holds = first_part ns n x f g p dir (row n holds ∷ []) (at_node holds (omega arith))

  place_con : (name : List ℕ) (x : Tree Place) → PlacedTerm x → PlacedShape (con name x)
  place_con name x f g p dir ns n =
      let way = Some (alternative_held name dir) in
      below ns n nodes.Con _ (judged ns n _ _ (omega arith) (in_front (E g p way (behind ns) (suc n) x) (f g p way (behind ns) (suc n))))

  place_esac : (at : At) (x : Tree Place) → PlacedTerm x → PlacedShape (esac at x)
  place_esac at x f g p dir ns n = below ns n nodes.Esac _ (part_closed ns n x f g p None _)

  place_member : (x : Tree Place) (at : At) → PlacedTerm x → PlacedShape (member x at)
  place_member x at f g p dir ns n = below ns n nodes.Member _ (part_closed ns n x f g p None _)

  place_cast : (x : Tree Place) → PlacedTerm x → PlacedShape (cast x)
  place_cast x f g p dir ns n = below ns n nodes.Cast _ (judged ns n _ _ (omega arith) (part_closed ns n x f g p None _))

  place_annot : (x : Tree Place) (a : Arg) → PlacedTerm x → PlacedShape (annot x a)
  place_annot x a f g p dir ns n = below ns n nodes.Annot _ (judged ns n _ _ (omega arith) (part_closed ns n x f g p (Some a.ty) _))

  -- ---- records

  place_field : (name : List ℕ) (x : Tree Place) (later : List ℕ) (y : Tree Place) (fs : Named Place) → PlacedTerm x → PlacedFields (field later y fs) → PlacedFields (field name x (field later y fs))
  place_field name x later y fs f ff g p dirs strings ns n =
      let g1 = first (first_marks strings) g in
      let g2 = second (first_marks strings) g in
      let later_events = field_events functions vars g2 p (later_directions dirs) (later_marks strings) (drop (size x) ns) (n + size x) (field later y fs) in
      and_then (E g1 p (next_direction dirs) ns n x) later_events (f g1 p (next_direction dirs) ns n)
      (from_there (size x) later_events (ff g2 p (later_directions dirs) (later_marks strings) (drop (size x) ns) (n + size x)))

  place_struct : (fs : Named Place) → PlacedFields fs → PlacedShape (struct fs)
  place_struct fs f g p dir ns n =
      let es = field_events functions vars g p (field_directions dir) (strings_at ns) (behind ns) (suc n) fs in
      and_then (reached n ns nodes.Struct (field_strings vars fs (strings_at ns) g)) (row n (is_record dir fs) ∷ es) (at_reached nodes.Struct (field_strings vars fs (strings_at ns) g))
      (judged ns n (is_record dir fs) es (omega arith) (in_front es (f g p (field_directions dir) (strings_at ns) (behind ns) (suc n))))

  -- ---- terms of lawful kernels

  by_shape : (a : Place) (s : Shape Place) → PlacedShape s → PlacedTerm (term a s)
  by_shape a s f g p dir ns n =
      and_then (events_shape functions vars g p dir ns n s) (within (plain_in functions p dir (term a s)) ∷ []) (f g p dir ns n) (at_limit (plain_in functions p dir (term a s)))

  module _ (types_in : ℕ) where
    abbrev LawfulTerm : ℕ → Tree Place → Type 0
    LawfulTerm = Lawful functions vars types_in

    mutual
      pub place_term : (x : Tree Place) (depth : ℕ) → LawfulTerm depth x → PlacedTerm x
      place_term (term a s) depth h = by_shape a s (place_shape a s depth h)

      place_shape : (a : Place) (s : Shape Place) (depth : ℕ) → LawfulTerm depth (term a s) → PlacedShape s
      place_shape a (var i) depth h = λ g p dir ns n. leaf ns n nodes.Var _
      place_shape a unit depth h = λ g p dir ns n. leaf ns n nodes.Unit _
      place_shape a (bool v) depth h = λ g p dir ns n. leaf ns n nodes.Bool _
      place_shape a (lit v) depth h = λ g p dir ns n. leaf ns n nodes.Lit _
      place_shape a (fun f args) depth h = λ g p dir ns n. leaf ns n nodes.Fun _
      place_shape a (op o none) depth h = absurd (let e = h.0 in let some = at_least_one o in omega arith)
      place_shape a (op o (more x none)) depth h = one_operand o x (place_term x depth h.1.0)
      place_shape a (op o (more l (more r none))) depth h = two_operands o l r (place_term l depth h.1.0) (place_term r depth h.1.1.0)
      place_shape a (op o (more l (more r (more x ts)))) depth h = absurd (let e = h.0 in let most = at_most_two o in omega arith)
      place_shape a (app f x) depth h = place_app f x (place_term f depth h.0) (place_term x depth h.1)
      place_shape a (lets v x y) depth h = place_let v x y (place_term x depth h.0) (place_term y (suc depth) h.1)
      place_shape a (let_bang os v x y) depth h = place_let_bang os v x y (place_term x depth h.1) (place_term y (suc depth) h.2)
      place_shape a (if_else c x y) depth h = place_if c x y (place_term c depth h.0) (place_term x depth h.1) (place_term y depth h.2)
      place_shape a (con name x) depth h = place_con name x (place_term x depth h)
      place_shape a (case_of c at v x y) depth h = place_case c at v x y (place_term c depth h.0) (place_term x (suc depth) h.1) (place_term y (suc depth) h.2)
      place_shape a (esac at x) depth h = place_esac at x (place_term x depth h)
      place_shape a (struct fs) depth h = place_struct fs (place_fields fs depth h.2)
      place_shape a (member x at) depth h = place_member x at (place_term x depth h)
      place_shape a (take_field x at v z y) depth h = place_take x at v z y (place_term x depth h.0) (place_term y (suc (suc depth)) h.1)
      place_shape a (put x at y) depth h = place_put x at y (place_term x depth h.0) (place_term y depth h.1)
      place_shape a (cast x) depth h = place_cast x (place_term x depth h)
      place_shape a (annot x t) depth h = place_annot x t (place_term x depth h.0)

      place_fields : (fs : Named Place) (depth : ℕ) → AreLawfulFields (map (λ f. length f.vars) functions) types_in depth fs → PlacedFields fs
      place_fields end depth h = λ g p dirs strings ns n. nothing
      place_fields (field name x end) depth h = λ g p dirs strings ns n. as_many (omega arith) (place_term x depth h.0 g p (next_direction dirs) ns n)
      place_fields (field name x (field later y fs)) depth h = place_field name x later y fs (place_term x depth h.0) (place_fields (field later y fs) depth h.1)
