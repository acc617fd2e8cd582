-- Kinds at each list, and at what is left of one.
use Rattle.std.proofs.Common.{◌≡◌, ℕ, ◌<◌, ◌≤◌, List, [], ◌∷◌, map, length, drop, get_or, ◌+◌, refl, ap, ◌∙◌}
use Rattle.std.proofs.Math.Bool.{and-true, and_assoc}
use Rattle.std.proofs.lemmas.Option.{slice_get-map}
use Rattle.std.proofs.lemmas.List.{at_drop_more, at_drop_all}
use Rattle.cg_base.proofs.Views.{piece_of}
use Rattle.cg_base.specs.declared.ty.Part.{Part}
use Rattle.cg_base.specs.declared.ty.Ty.{Ty}
use Rattle.cg_base.specs.declared.kind.Kinds.{Kinds}
use Rattle.cg_base.specs.Types.{Tau, Piece, to_taus, to_parts, type_of, part_of}
use Rattle.cg_kinds.specs.Kinds.{kinds, kinds_all, kinds_parts, both, at_least, all_kinds}

-- kinds of a list, with no type and with one more
pub kinds_all-none : (vs : List Kinds) → kinds_all vs (to_taus []) ≡ all_kinds
unfolding kinds to_taus
kinds_all-none vs = refl

pub kinds_all-more : (vs : List Kinds) (t : Tau) (ts : List Tau) → kinds_all vs (to_taus (t ∷ ts)) ≡ both (kinds vs t) (kinds_all vs (to_taus ts))
unfolding kinds to_taus
kinds_all-more vs t ts = refl

-- the same of parts
pub kinds_parts-end : (vs : List Kinds) → kinds_parts vs (to_parts []) ≡ all_kinds
unfolding kinds to_parts
kinds_parts-end vs = refl

pub kinds_parts-part : (vs : List Kinds) (p : Piece) (ps : List Piece) → kinds_parts vs (to_parts (p ∷ ps)) ≡ both (at_least (kinds vs p.ty) p.taken) (kinds_parts vs (to_parts ps))
unfolding kinds to_parts
kinds_parts-part vs p ps = refl

-- `both` as the `and` of three booleans: it has a unit, and is associative
pub both-all : (k : Kinds) → both k all_kinds ≡ k
unfolding both
both-all k = λ i. record { drop = and-true k.drop i; share = and-true k.share i; escape = and-true k.escape i }

pub all-both : (k : Kinds) → both all_kinds k ≡ k
unfolding both
all-both k = refl

pub both_assoc : (a b c : Kinds) → both (both a b) c ≡ both a (both b c)
unfolding both
both_assoc a b c =
    λ i. record { drop = and_assoc a.drop b.drop c.drop i; share = and_assoc a.share b.share c.share i; escape = and_assoc a.escape b.escape c.escape i }

-- what is left of a list, one step on and at the end
pub kinds_rest : (vs : List Kinds) (ts : List Ty) (i : ℕ) (d : Ty) → i < length ts → kinds_all vs (to_taus (map type_of (drop i ts))) ≡ both (kinds vs (type_of (get_or ts i d))) (kinds_all vs (to_taus (map type_of (drop (i + 1) ts))))
kinds_rest vs ts i d h = at_drop_more (λ l. kinds_all vs (to_taus (map type_of l))) ts i d h ∙ kinds_all-more vs _ _

pub kinds_rest_all : (vs : List Kinds) (ts : List Ty) (i : ℕ) → length ts ≤ i → kinds_all vs (to_taus (map type_of (drop i ts))) ≡ all_kinds
kinds_rest_all vs ts i h = at_drop_all (λ l. kinds_all vs (to_taus (map type_of l))) ts i h ∙ kinds_all-none vs

pub part_kinds_rest : (vs : List Kinds) (ps : List Part) (i : ℕ) (d : Part) → i < length ps → kinds_parts vs (to_parts (map part_of (drop i ps))) ≡ both (at_least (kinds vs (type_of (get_or ps i d).ty)) (get_or ps i d).taken) (kinds_parts vs (to_parts (map part_of (drop (i + 1) ps))))
part_kinds_rest vs ps i d h =
    at_drop_more (λ l. kinds_parts vs (to_parts (map part_of l))) ps i d h ∙ kinds_parts-part vs _ _
    ∙ ap (λ p. both (at_least (kinds vs p.ty) p.taken) (kinds_parts vs (to_parts (map part_of (drop (i + 1) ps))))) (piece_of (get_or ps i d))

pub part_kinds_rest_all : (vs : List Kinds) (ps : List Part) (i : ℕ) → length ps ≤ i → kinds_parts vs (to_parts (map part_of (drop i ps))) ≡ all_kinds
part_kinds_rest_all vs ps i h = at_drop_all (λ l. kinds_parts vs (to_parts (map part_of l))) ps i h ∙ kinds_parts-end vs

pub ruleset kind_steps = (kinds_rest, kinds_rest_all, part_kinds_rest, part_kinds_rest_all, both-all, all-both, both_assoc, slice_get-map)
