-- How many nodes types have that are made of others, and so how large written types are.
use Rattle.std.proofs.Common.{◌≡◌, ℕ, ◌+◌, Bool, true, false, cond, List, [], ◌∷◌, ◌++◌, map, sum, Option, Some, None, refl, sym, ap, ◌∙◌, arith}
use Rattle.std.proofs.lemmas.List.{append_assoc, append-nil}
use Rattle.std.proofs.lemmas.List.Sums.{sum_by-cons}
use Rattle.std.proofs.lemmas.Option.{slice_get-map}
use Rattle.std.specs.List.{slice_get}
use Rattle.std.specs.Option.{option_map}
use Rattle.std.specs.Str.{bytes_eq}
use Rattle.cg_base.specs.Types as kernel
use Rattle.cg_base.specs.Types.{Tau, var, unit, word, bool, arrow, abs, variant, fields, Taus, none, more, Parts, end, part, Piece, to_taus, to_parts}
use Rattle.cg_kinds.specs.Kinds.{bang, bang_all, bang_parts, or_unit, subst, subst_all, subst_parts}
use Rattle.cg_surface.specs.Written.{Written, Writtens, WrittenFields, WrittenAlts}
use Rattle.cg_surface.specs.Written as types
use Rattle.cg_resolve_def.specs.Declared.{is_variable, looked_up, plain_types}
use Rattle.cg_resolve_def.specs.Expand.{Bodies, all_taken, applied_as, bytes_le, component, components, expanded, expanded_all, expanded_alts, expanded_fields, in_order, inserted, position_of, take_of, taken_parts, types_length}
use Rattle.cg_resolve_def.specs.Takes.{largest, largest_alt, largest_field, largest_of, nodes, nodes_all, nodes_parts}
use Rattle.cg_resolve_written.specs.Sizes.{applied_size, greatest, greatest_alt, greatest_field, greatest_of, named_size, or_one, size, sizes, total, total_alts, total_fields, weighed, weighed_all, weighed_parts}

-- what is observed has as many
mutual
  unfolding bang

  pub nodes-bang : (t : Tau) → nodes (bang t) ≡ nodes t
  nodes-bang (var n) = refl
  nodes-bang (kernel.seen n) = refl
  nodes-bang unit = refl
  nodes-bang (word w) = refl
  nodes-bang bool = refl
  nodes-bang (arrow a b) = refl
  nodes-bang (abs n ts sigil) = ap (λ k. k + 1) (nodes_all-bang ts)
  nodes-bang (variant ps) = ap (λ k. k + 1) (nodes_parts-bang ps)
  nodes-bang (fields ps sigil) = ap (λ k. k + 1) (nodes_parts-bang ps)

  nodes_all-bang : (ts : Taus) → nodes_all (bang_all ts) ≡ nodes_all ts
  nodes_all-bang none = refl
  nodes_all-bang (more t ts) = omega (arith, nodes-bang t, nodes_all-bang ts)

  nodes_parts-bang : (ps : Parts) → nodes_parts (bang_parts ps) ≡ nodes_parts ps
  nodes_parts-bang end = refl
  nodes_parts-bang (part n t taken ps) = omega (arith, nodes-bang t, nodes_parts-bang ps)

-- an argument has its size
nodes_or_unit : (t : Option Tau) → nodes (or_unit t) ≡ or_one (option_map nodes t)
nodes_or_unit None = refl
nodes_or_unit (Some t) = refl

-- a type with arguments for its variables has the nodes that it has with arguments of their sizes
module _ (args : List Tau) where
  argument : (n : ℕ) → nodes (or_unit (slice_get args n)) ≡ or_one (slice_get (map nodes args) n)
  argument n = nodes_or_unit (slice_get args n) ∙ ap or_one (sym (slice_get-map nodes args n))

  mutual
    unfolding subst weighed

    pub nodes-subst : (t : Tau) → nodes (subst args t) ≡ weighed (map nodes args) t
    nodes-subst (var n) = argument n
    nodes-subst (kernel.seen n) = nodes-bang (or_unit (slice_get args n)) ∙ argument n
    nodes-subst unit = refl
    nodes-subst (word w) = refl
    nodes-subst bool = refl
    nodes-subst (arrow a b) = omega (arith, nodes-subst a, nodes-subst b)
    nodes-subst (abs n ts sigil) = ap (λ k. k + 1) (nodes_all-subst ts)
    nodes-subst (variant ps) = ap (λ k. k + 1) (nodes_parts-subst ps)
    nodes-subst (fields ps sigil) = ap (λ k. k + 1) (nodes_parts-subst ps)

    nodes_all-subst : (ts : Taus) → nodes_all (subst_all args ts) ≡ weighed_all (map nodes args) ts
    nodes_all-subst none = refl
    nodes_all-subst (more t ts) = omega (arith, nodes-subst t, nodes_all-subst ts)

    nodes_parts-subst : (ps : Parts) → nodes_parts (subst_parts args ps) ≡ weighed_parts (map nodes args) ps
    nodes_parts-subst end = refl
    nodes_parts-subst (part n t taken ps) = omega (arith, nodes-subst t, nodes_parts-subst ps)

-- marks of what is taken are no nodes
nodes-taken : (names : List (List ℕ)) (ps : Parts) → nodes_parts (taken_parts names ps) ≡ nodes_parts ps
nodes-taken names end = refl
nodes-taken names (part n t taken ps) = ap (λ k. nodes t + k) (nodes-taken names ps)

nodes-all_taken : (ps : Parts) → nodes_parts (all_taken ps) ≡ nodes_parts ps
nodes-all_taken end = refl
nodes-all_taken (part n t taken ps) = ap (λ k. nodes t + k) (nodes-all_taken ps)

pub nodes-take_of : (taken : Parts → Parts) → ((ps : Parts) → nodes_parts (taken ps) ≡ nodes_parts ps) → (t : Tau) → nodes (take_of taken t) ≡ nodes t
nodes-take_of taken same (var n) = refl
nodes-take_of taken same (kernel.seen n) = refl
nodes-take_of taken same unit = refl
nodes-take_of taken same (word w) = refl
nodes-take_of taken same bool = refl
nodes-take_of taken same (arrow a b) = refl
nodes-take_of taken same (abs n ts sigil) = refl
nodes-take_of taken same (variant ps) = refl
nodes-take_of taken same (fields ps sigil) = ap (λ k. k + 1) (same ps)

-- nor is the order of parts
abbrev in_pieces : List Piece → ℕ
in_pieces ps = nodes_parts (to_parts ps)

no_pieces : in_pieces [] ≡ 0
unfolding to_parts
no_pieces = refl

pieces_more : (p : Piece) (ps : List Piece) → in_pieces (p ∷ ps) ≡ nodes p.ty + in_pieces ps
unfolding to_parts
pieces_more p ps = refl

in_inserted : (p : Piece) (qs : List Piece) → in_pieces (inserted p qs) ≡ nodes p.ty + in_pieces qs
in_inserted p [] = pieces_more p []
in_inserted p (q ∷ qs) = pick (bytes_le p.name q.name) (in_inserted p qs)
  where
    pick : (b : Bool) → in_pieces (inserted p qs) ≡ nodes p.ty + in_pieces qs → in_pieces (cond b (p ∷ q ∷ qs) (q ∷ inserted p qs)) ≡ nodes p.ty + in_pieces (q ∷ qs)
    pick true h = pieces_more p (q ∷ qs)
    pick false h = omega (arith, h, pieces_more q (inserted p qs), pieces_more q qs)

pub nodes-in_order : (ps : List Piece) → in_pieces (in_order ps) ≡ in_pieces ps
nodes-in_order [] = refl
nodes-in_order (p ∷ ps) = omega (arith, in_inserted p (in_order ps), nodes-in_order ps, pieces_more p ps)

-- arguments together
nodes_list : (ts : List Tau) → nodes_all (to_taus ts) ≡ sum (map nodes ts)
unfolding to_taus
nodes_list [] = refl
nodes_list (t ∷ ts) = ap (λ k. nodes t + k) (nodes_list ts) ∙ sym (sum_by-cons (λ k. k) (nodes t) (map nodes ts))

-- a type that is declared beforehand is one node
abbrev AreSmall : List (List ℕ × Tau) → Type 0
AreSmall [] = Unit {0}
AreSmall (line ∷ lines) = (nodes line.1 ≡ 1) × AreSmall lines

one_node : (lines : List (List ℕ × Tau)) (n : List ℕ) (t : Tau) → AreSmall lines → looked_up lines n ≡ Some t → nodes t ≡ 1
one_node [] n t small is = absurd (cc)
one_node (line ∷ lines) n t small is = pick (bytes_eq n line.0) is (one_node lines n t small.1)
  where
    pick : (b : Bool) → cond b (Some line.1) (looked_up lines n) ≡ Some t → (looked_up lines n ≡ Some t → nodes t ≡ 1) → nodes t ≡ 1
    pick true found rest = let same : line.1 ≡ t = cc in ap nodes (sym same) ∙ small.0
    pick false found rest = rest found

plain_node : (n : List ℕ) (t : Tau) → looked_up plain_types n ≡ Some t → nodes t ≡ 1
plain_node n t is = one_node plain_types n t (refl, (refl, (refl, (refl, (refl, (refl, tt)))))) is

-- a type by its name
nodes-applied : (n : List ℕ) (args : List Tau) (plain body : Option Tau) → ((t : Tau) → plain ≡ Some t → nodes t ≡ 1) → nodes (applied_as n args plain body) ≡ applied_size (map nodes args) plain body
nodes-applied n args (Some t) body small = small t refl
nodes-applied n args None (Some t) small = nodes-subst args t
nodes-applied n args None None small = ap (λ k. k + 1) (nodes_list args)

module _ (known : Bodies) (vars : List (List ℕ)) where
  nodes-named : (n : List ℕ) (args : List Tau) → nodes (cond (is_variable n) (var (position_of vars n)) (applied_as n args (looked_up plain_types n) (known n))) ≡ named_size known n (map nodes args)
  unfolding named_size
  nodes-named n args = pick (is_variable n)
    where
      pick : (b : Bool) → nodes (cond b (var (position_of vars n)) (applied_as n args (looked_up plain_types n) (known n))) ≡ cond b 1 (applied_size (map nodes args) (looked_up plain_types n) (known n))
      pick true = refl
      pick false = nodes-applied n args (looked_up plain_types n) (known n) (plain_node n)

  mutual
    -- the nodes of what a written type becomes are its size
    pub nodes-expanded : (t : Written) → nodes (expanded known vars t) ≡ size known t
    nodes-expanded (types.named p n args) =
        nodes-named n (expanded_all known vars args []) ∙ ap (named_size known n) (nodes-all args [] ∙ append-nil (sizes known args))
    nodes-expanded (types.nothing p) = refl
    nodes-expanded (types.tuple p ts) = omega (arith, nodes-components ts [], no_pieces)
    nodes-expanded (types.paren p t) = nodes-expanded t
    nodes-expanded (types.arrow p a b) = omega (arith, nodes-expanded a, nodes-expanded b)
    nodes-expanded (types.fields p boxed fs) = omega (arith, nodes-fields fs [], no_pieces)
    nodes-expanded (types.variant p choices) = omega (arith, nodes-in_order (expanded_alts known vars choices []), nodes-alts choices [], no_pieces)
    nodes-expanded (types.bang p t) = nodes-bang (expanded known vars t) ∙ nodes-expanded t
    nodes-expanded (types.take_some p t ns) = nodes-take_of _ (nodes-taken (map (λ n. n.name) ns)) (expanded known vars t) ∙ nodes-expanded t
    nodes-expanded (types.take_all p t q) = nodes-take_of _ nodes-all_taken (expanded known vars t) ∙ nodes-expanded t

    nodes-all : (ts : Writtens) (behind : List Tau) → map nodes (expanded_all known vars ts behind) ≡ sizes known ts ++ map nodes behind
    nodes-all types.no_types behind = refl
    nodes-all (types.and_type ts t) behind =
        nodes-all ts (expanded known vars t ∷ behind) ∙ ap (λ k. sizes known ts ++ k ∷ map nodes behind) (nodes-expanded t) ∙ sym (append_assoc (sizes known ts) (size known t ∷ []) (map nodes behind))

    nodes-components : (ts : Writtens) (behind : List Piece) → in_pieces (components known vars ts behind) ≡ total known ts + in_pieces behind
    nodes-components types.no_types behind = omega arith
    nodes-components (types.and_type ts t) behind =
        let p : Piece = record { name = component (types_length ts); ty = expanded known vars t; taken = false } in
        omega (arith, nodes-components ts (p ∷ behind), pieces_more p behind, nodes-expanded t)

    nodes-fields : (fs : WrittenFields) (behind : List Piece) → in_pieces (expanded_fields known vars fs behind) ≡ total_fields known fs + in_pieces behind
    nodes-fields types.no_fields behind = omega arith
    nodes-fields (types.and_field fs at t) behind =
        let p : Piece = record { name = at.name; ty = expanded known vars t; taken = false } in
        omega (arith, nodes-fields fs (p ∷ behind), pieces_more p behind, nodes-expanded t)

    nodes-alts : (choices : WrittenAlts) (behind : List Piece) → in_pieces (expanded_alts known vars choices behind) ≡ total_alts known choices + in_pieces behind
    nodes-alts types.no_alts behind = omega arith
    nodes-alts (types.and_plain choices at) behind =
        let p : Piece = record { name = at.name; ty = unit; taken = false } in
        omega (arith, nodes-alts choices (p ∷ behind), pieces_more p behind)
    nodes-alts (types.and_alt choices at t) behind =
        let p : Piece = record { name = at.name; ty = expanded known vars t; taken = false } in
        omega (arith, nodes-alts choices (p ∷ behind), pieces_more p behind, nodes-expanded t)

  mutual
    -- and so the largest type that is written in it is the greatest size
    pub largest-greatest : (t : Written) → largest known vars t ≡ greatest known t
    largest-greatest (types.named p n args) = omega (arith, nodes-expanded (types.named p n args), largest_of-greatest args)
    largest-greatest (types.nothing p) = refl
    largest-greatest (types.tuple p ts) = omega (arith, nodes-expanded (types.tuple p ts), largest_of-greatest ts)
    largest-greatest (types.paren p t) = largest-greatest t
    largest-greatest (types.arrow p a b) = omega (arith, nodes-expanded (types.arrow p a b), largest-greatest a, largest-greatest b)
    largest-greatest (types.fields p boxed fs) = omega (arith, nodes-expanded (types.fields p boxed fs), largest_field-greatest fs)
    largest-greatest (types.variant p choices) = omega (arith, nodes-expanded (types.variant p choices), largest_alt-greatest choices)
    largest-greatest (types.bang p t) = largest-greatest t
    largest-greatest (types.take_some p t ns) = largest-greatest t
    largest-greatest (types.take_all p t q) = largest-greatest t

    largest_of-greatest : (ts : Writtens) → largest_of known vars ts ≡ greatest_of known ts
    largest_of-greatest types.no_types = refl
    largest_of-greatest (types.and_type ts t) = omega (arith, largest_of-greatest ts, largest-greatest t)

    largest_field-greatest : (fs : WrittenFields) → largest_field known vars fs ≡ greatest_field known fs
    largest_field-greatest types.no_fields = refl
    largest_field-greatest (types.and_field fs at t) = omega (arith, largest_field-greatest fs, largest-greatest t)

    largest_alt-greatest : (choices : WrittenAlts) → largest_alt known vars choices ≡ greatest_alt known choices
    largest_alt-greatest types.no_alts = refl
    largest_alt-greatest (types.and_plain choices at) = largest_alt-greatest choices
    largest_alt-greatest (types.and_alt choices at t) = omega (arith, largest_alt-greatest choices, largest-greatest t)
