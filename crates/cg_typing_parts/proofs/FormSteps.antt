-- Forms and sizes, at what is left of a list.
use Rattle.std.proofs.Common.{◌≡◌, ℕ, ◌<◌, ◌≤◌, List, [], ◌∷◌, map, length, drop, get_or, ◌+◌, Bool, true, false, ◌&&◌, refl, ap, ◌∙◌}
use Rattle.std.proofs.lemmas.List.{at_drop_more, at_drop_all}
use Rattle.cg_base.proofs.Views.{piece_of}
use Rattle.cg_base.specs.declared.ty.Part.{Part}
use Rattle.cg_base.specs.declared.ty.Ty.{Ty}
use Rattle.cg_base.specs.Types.{to_taus, to_parts, type_of, part_of}
use Rattle.cg_kinds.specs.Kinds.{is_word}
use Rattle.cg_typing.specs.Parts.{are_words, has_word_arrays, have_word_arrays, parts_have_word_arrays, nodes, nodes_all, nodes_parts}

-- what holds of each item, where a definition asks it of one after the other
module _ {X : Type 0} (all : List X → Bool) (one : X → Bool) (more : (x : X) (xs : List X) → all (x ∷ xs) ≡ (one x && all xs)) where
  all_step : (xs : List X) (i : ℕ) (d : X) (b : Bool) → i < length xs → one (get_or xs i d) ≡ b → all (drop i xs) ≡ (b && all (drop (i + 1) xs))
  all_step xs i d b h e = at_drop_more all xs i d h ∙ more _ _ ∙ ap (λ c. c && all (drop (i + 1) xs)) e

-- one more
words-more : (t : Ty) (ts : List Ty) → are_words (to_taus (map type_of (t ∷ ts))) ≡ (is_word (type_of t) && are_words (to_taus (map type_of ts)))
unfolding to_taus
words-more t ts = refl

words-none : are_words (to_taus []) ≡ true
unfolding to_taus
words-none = refl

arrays-more : (t : Ty) (ts : List Ty)
    → have_word_arrays (to_taus (map type_of (t ∷ ts))) ≡ (has_word_arrays (type_of t) && have_word_arrays (to_taus (map type_of ts)))
unfolding to_taus
arrays-more t ts = refl

arrays-none : have_word_arrays (to_taus []) ≡ true
unfolding to_taus
arrays-none = refl

part_arrays-more : (p : Part) (ps : List Part)
    → parts_have_word_arrays (to_parts (map part_of (p ∷ ps))) ≡ (has_word_arrays (type_of p.ty) && parts_have_word_arrays (to_parts (map part_of ps)))
unfolding to_parts
part_arrays-more p ps = ap (λ q. has_word_arrays q.ty && parts_have_word_arrays (to_parts (map part_of ps))) (piece_of p)

part_arrays-none : parts_have_word_arrays (to_parts []) ≡ true
unfolding to_parts
part_arrays-none = refl

nodes-more : (t : Ty) (ts : List Ty) → nodes_all (to_taus (map type_of (t ∷ ts))) ≡ nodes (type_of t) + nodes_all (to_taus (map type_of ts))
unfolding to_taus
nodes-more t ts = refl

nodes-none : nodes_all (to_taus []) ≡ 0
unfolding to_taus
nodes-none = refl

part_nodes-more : (p : Part) (ps : List Part)
    → nodes_parts (to_parts (map part_of (p ∷ ps))) ≡ nodes (type_of p.ty) + nodes_parts (to_parts (map part_of ps))
unfolding to_parts
part_nodes-more p ps = ap (λ q. nodes q.ty + nodes_parts (to_parts (map part_of ps))) (piece_of p)

part_nodes-none : nodes_parts (to_parts []) ≡ 0
unfolding to_parts
part_nodes-none = refl

-- words
pub words_later : (ts : List Ty) (i : ℕ) (d : Ty) → i < length ts → is_word (type_of (get_or ts i d)) ≡ true
    → are_words (to_taus (map type_of (drop i ts))) ≡ are_words (to_taus (map type_of (drop (i + 1) ts)))
words_later ts i d h e = all_step (λ l. are_words (to_taus (map type_of l))) (λ t. is_word (type_of t)) words-more ts i d true h e

pub words_other : (ts : List Ty) (i : ℕ) (d : Ty) → i < length ts → is_word (type_of (get_or ts i d)) ≡ false
    → are_words (to_taus (map type_of (drop i ts))) ≡ false
words_other ts i d h e = all_step (λ l. are_words (to_taus (map type_of l))) (λ t. is_word (type_of t)) words-more ts i d false h e

pub words_past : (ts : List Ty) (i : ℕ) → length ts ≤ i → are_words (to_taus (map type_of (drop i ts))) ≡ true
words_past ts i h = at_drop_all (λ l. are_words (to_taus (map type_of l))) ts i h ∙ words-none

-- arrays of words
pub arrays_later : (ts : List Ty) (i : ℕ) (d : Ty) → i < length ts → has_word_arrays (type_of (get_or ts i d)) ≡ true
    → have_word_arrays (to_taus (map type_of (drop i ts))) ≡ have_word_arrays (to_taus (map type_of (drop (i + 1) ts)))
arrays_later ts i d h e = all_step (λ l. have_word_arrays (to_taus (map type_of l))) (λ t. has_word_arrays (type_of t)) arrays-more ts i d true h e

pub arrays_other : (ts : List Ty) (i : ℕ) (d : Ty) → i < length ts → has_word_arrays (type_of (get_or ts i d)) ≡ false
    → have_word_arrays (to_taus (map type_of (drop i ts))) ≡ false
arrays_other ts i d h e = all_step (λ l. have_word_arrays (to_taus (map type_of l))) (λ t. has_word_arrays (type_of t)) arrays-more ts i d false h e

pub arrays_past : (ts : List Ty) (i : ℕ) → length ts ≤ i → have_word_arrays (to_taus (map type_of (drop i ts))) ≡ true
arrays_past ts i h = at_drop_all (λ l. have_word_arrays (to_taus (map type_of l))) ts i h ∙ arrays-none

pub part_arrays_later : (ps : List Part) (i : ℕ) (d : Part) → i < length ps → has_word_arrays (type_of (get_or ps i d).ty) ≡ true
    → parts_have_word_arrays (to_parts (map part_of (drop i ps))) ≡ parts_have_word_arrays (to_parts (map part_of (drop (i + 1) ps)))
part_arrays_later ps i d h e =
    all_step (λ l. parts_have_word_arrays (to_parts (map part_of l))) (λ p. has_word_arrays (type_of p.ty)) part_arrays-more ps i d true h e

pub part_arrays_other : (ps : List Part) (i : ℕ) (d : Part) → i < length ps → has_word_arrays (type_of (get_or ps i d).ty) ≡ false
    → parts_have_word_arrays (to_parts (map part_of (drop i ps))) ≡ false
part_arrays_other ps i d h e =
    all_step (λ l. parts_have_word_arrays (to_parts (map part_of l))) (λ p. has_word_arrays (type_of p.ty)) part_arrays-more ps i d false h e

pub part_arrays_past : (ps : List Part) (i : ℕ) → length ps ≤ i → parts_have_word_arrays (to_parts (map part_of (drop i ps))) ≡ true
part_arrays_past ps i h = at_drop_all (λ l. parts_have_word_arrays (to_parts (map part_of l))) ps i h ∙ part_arrays-none

-- nodes
pub nodes_rest : (ts : List Ty) (i : ℕ) (d : Ty) → i < length ts
    → nodes_all (to_taus (map type_of (drop i ts))) ≡ nodes (type_of (get_or ts i d)) + nodes_all (to_taus (map type_of (drop (i + 1) ts)))
nodes_rest ts i d h = at_drop_more (λ l. nodes_all (to_taus (map type_of l))) ts i d h ∙ nodes-more _ _

pub nodes_past : (ts : List Ty) (i : ℕ) → length ts ≤ i → nodes_all (to_taus (map type_of (drop i ts))) ≡ 0
nodes_past ts i h = at_drop_all (λ l. nodes_all (to_taus (map type_of l))) ts i h ∙ nodes-none

pub part_nodes_rest : (ps : List Part) (i : ℕ) (d : Part) → i < length ps
    → nodes_parts (to_parts (map part_of (drop i ps))) ≡ nodes (type_of (get_or ps i d).ty) + nodes_parts (to_parts (map part_of (drop (i + 1) ps)))
part_nodes_rest ps i d h = at_drop_more (λ l. nodes_parts (to_parts (map part_of l))) ps i d h ∙ part_nodes-more _ _

pub part_nodes_past : (ps : List Part) (i : ℕ) → length ps ≤ i → nodes_parts (to_parts (map part_of (drop i ps))) ≡ 0
part_nodes_past ps i h = at_drop_all (λ l. nodes_parts (to_parts (map part_of l))) ps i h ∙ part_nodes-none

pub ruleset words_steps = (words_later, words_other, words_past)

pub ruleset arrays_steps = (arrays_later, arrays_other, arrays_past)

pub ruleset part_arrays_steps = (part_arrays_later, part_arrays_other, part_arrays_past)

pub ruleset nodes_steps = (nodes_rest, nodes_past)

pub ruleset part_nodes_steps = (part_nodes_rest, part_nodes_past)
