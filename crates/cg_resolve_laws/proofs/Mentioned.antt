-- What items mention are items, so the graph of mentions is closed.
use Rattle.std.proofs.Common.{◌≡◌, ℕ, suc, ◌+◌, ◌<◌, Bool, true, false, cond, List, [], ◌∷◌, length, subst as carry, arith}
use Rattle.std.proofs.lemmas.List.{length-map}
use Rattle.std.proofs.lemmas.List.Elements.{All-append, All-cons, All-map, All-nil, All-weaker}
use Rattle.std.specs.List.{All}
use Rattle.std.specs.Str.{bytes_eq}
use Rattle.cg_graphs.specs.Circles.{Closed}
use Rattle.cg_surface.specs.Programs.{Entry, abstract, define, signature, synonym}
use Rattle.cg_resolve_def.specs.Declared.{definition_named}
use Rattle.cg_resolve_def.specs.Mentions.{all_of, defined_mentions, entry_mentions, mentions, signature_from, synonym_from, type_mentions}

-- positions below a number
abbrev Within : ℕ → List ℕ → Type 0
Within n positions = All (λ j. j < n) positions

-- that of the first of some items, or of a later one
here_or_later : (b : Bool) (i n : ℕ) (later : List ℕ) → Within (i + 1 + n) later → Within (i + suc n) (cond b (i ∷ []) later)
here_or_later true i n later h = All-cons (λ j. j < i + suc n) i [] (omega arith) (All-nil (λ j. j < i + suc n))
here_or_later false i n later h = All-weaker (λ j. j < i + 1 + n) (λ j. j < i + suc n) (λ j lt. omega arith) later h

-- what is found by a name is the position of an item
synonym_within : (i : ℕ) (entries : List Entry) (n : List ℕ) → Within (i + length entries) (synonym_from i entries n)
synonym_within i [] n = All-nil (λ j. j < i + 0)
synonym_within i (synonym at params body ∷ later) n = here_or_later (bytes_eq n at.name) i (length later) (synonym_from (i + 1) later n) (synonym_within (i + 1) later n)
synonym_within i (abstract at params ∷ later) n = here_or_later false i (length later) (synonym_from (i + 1) later n) (synonym_within (i + 1) later n)
synonym_within i (signature at vars places ty ∷ later) n = here_or_later false i (length later) (synonym_from (i + 1) later n) (synonym_within (i + 1) later n)
synonym_within i (define at param body ∷ later) n = here_or_later false i (length later) (synonym_from (i + 1) later n) (synonym_within (i + 1) later n)

signature_within : (i : ℕ) (entries : List Entry) (n : List ℕ) → Within (i + length entries) (signature_from i entries n)
signature_within i [] n = All-nil (λ j. j < i + 0)
signature_within i (signature at vars places ty ∷ later) n = here_or_later (bytes_eq n at.name) i (length later) (signature_from (i + 1) later n) (signature_within (i + 1) later n)
signature_within i (synonym at params body ∷ later) n = here_or_later false i (length later) (signature_from (i + 1) later n) (signature_within (i + 1) later n)
signature_within i (abstract at params ∷ later) n = here_or_later false i (length later) (signature_from (i + 1) later n) (signature_within (i + 1) later n)
signature_within i (define at param body ∷ later) n = here_or_later false i (length later) (signature_from (i + 1) later n) (signature_within (i + 1) later n)

all_within : (k : ℕ) (positions : List ℕ → List ℕ) → ((n : List ℕ) → Within k (positions n)) → (names : List (List ℕ)) → Within k (all_of positions names)
all_within k positions h [] = All-nil (λ j. j < k)
all_within k positions h (n ∷ names) = All-append (λ j. j < k) (positions n) (all_of positions names) (h n) (all_within k positions h names)

-- what an item mentions is an item
entry_within : (entries : List Entry) (e : Entry) → Within (0 + length entries) (entry_mentions entries e)
entry_within entries (synonym at params body) = all_within (0 + length entries) (synonym_from 0 entries) (synonym_within 0 entries) (type_mentions body)
entry_within entries (signature at vars places ty) =
    all_within (0 + length entries) (signature_from 0 entries) (signature_within 0 entries) (defined_mentions (definition_named entries at.name))
entry_within entries (abstract at params) = All-nil (λ j. j < 0 + length entries)
entry_within entries (define at param body) = All-nil (λ j. j < 0 + length entries)

-- what holds of everything holds of each of some
every : {X : Type 0} (P : X → Type 0) → ((x : X) → P x) → (xs : List X) → All P xs
every P h [] = All-nil P
every P h (x ∷ xs) = All-cons P x xs (h x) (every P h xs)

-- and so the graph of mentions is closed
pub mentions_closed : (entries : List Entry) → Closed (mentions entries)
mentions_closed entries =
    let many : length (mentions entries) ≡ length entries = length-map entries (entry_mentions entries) in
    All-map (Within (length (mentions entries))) (entry_mentions entries) entries
    (every (λ e. Within (length (mentions entries)) (entry_mentions entries e)) (λ e. carry (λ n. Within n (entry_mentions entries e)) (omega (arith, many)) (entry_within entries e)) entries)
