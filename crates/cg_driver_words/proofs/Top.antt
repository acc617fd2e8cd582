-- From the whole command line to the words behind a command's name.
use Rattle.std.proofs.Common.{◌≡◌, ◌∙◌, Bool, true, false, true≢false, refl, sym, ap, List, [], ◌∷◌, ◌++◌, append-nil, append_assoc, Option, Some, None, codes, fold, subst, IsUtf8}
use Rattle.std.specs.Str.{bytes_eq}
use Rattle.std.proofs.lemmas.Slice.Eq.{bytes_eq-Decides}
use Rattle.clap.specs.Words.{Row, Text, Shape, Kinds, built, fault_of, subcommand_of}
use Rattle.clap.specs.Kinds.{or_else}
use Rattle.clap.specs.Walk.{Names, Walk, idle, walked, nothing_held, rows_after}
use Rattle.clap.specs.Faults.{entered_fault, walk_fault, defaults_fault, flags_fault}
use Rattle.clap.specs.Simple.{entered, names_of}
use Rattle.cg_driver_words.specs.Apps.{cogent_app}
use Rattle.cg_driver_words.specs.Matches.{build_in, check_in, command_from, gen_in, recheck_in, run_in}
use Rattle.cg_driver_words.specs.Words.{Command, command_of}
use Rattle.cg_driver_words.proofs.Commands.{build_expects, build_is_leaf, build_rules, check_expects, check_is_leaf, check_rules, gen_expects, gen_is_leaf, gen_rules, recheck_expects, recheck_is_leaf, recheck_rules, run_expects, run_is_leaf, run_rules}
use Rattle.cg_driver_words.proofs.Sorts.{AllUtf8, Sort, dashes, first_char, other, plain, short, sort_of, steps, steps_is}
use Rattle.cg_driver_words.proofs.Walking.{leaf_words, out, read_of, state}

abbrev top : Shape
top = (built cogent_app).top

abbrev names : Names
names = names_of (built cogent_app)

abbrev met : Text → List Text → Walk
met name words = record { held = nothing_held; waiting = idle; position = 1; is_trailing = false; stopped = Some (name, words) }

-- behind a command's name the walk only keeps the words
kept : (name : Text) (before words : List Text) → fold (walked top.rules names) (met name before) words ≡ met name (before ++ words)
unfolding walked
kept name before [] = ap (met name) (sym (append-nil before))
kept name before (w ∷ words) = kept name (before ++ w ∷ []) words ∙ ap (met name) (append_assoc before (w ∷ []) words)

calm : (name : Text) (before words : List Text) → walk_fault top names (met name before) words ≡ []
unfolding walked walk_fault
calm name before [] = refl
calm name before (w ∷ words) = calm name (before ++ w ∷ []) words

nil_end : (a : Kinds) (x : Option (Text × List Row)) → command_from (or_else a []) x ≡ command_from a x
nil_end [] x = refl
nil_end (k ∷ ks) x = refl

-- what clap answers to the words
abbrev answer : List Text → Option Command
answer words = command_from (fault_of cogent_app words) (subcommand_of cogent_app words)

empty : answer [] ≡ None
unfolding walked walk_fault defaults_fault
empty = refl

to_check : (words : List Text) → answer (codes "check" ∷ words) ≡ out (codes "check") check_rules check_in false (state (codes "check") check_rules check_in false nothing_held 1 false idle) words
unfolding walked walk_fault defaults_fault
to_check words = rw (kept (codes "check") [] words, calm (codes "check") [] words)
    (nil_end (entered_fault (built cogent_app) (Some (codes "check", words))) (entered (built cogent_app) (Some (codes "check", words)))
    ∙ read_of (entered_fault (built cogent_app) (Some (codes "check", words))) (codes "check") (rows_after check_rules [] words))

to_build : (words : List Text) → answer (codes "build" ∷ words) ≡ out (codes "build") build_rules build_in false (state (codes "build") build_rules build_in false nothing_held 1 false idle) words
unfolding walked walk_fault defaults_fault
to_build words = rw (kept (codes "build") [] words, calm (codes "build") [] words)
    (nil_end (entered_fault (built cogent_app) (Some (codes "build", words))) (entered (built cogent_app) (Some (codes "build", words)))
    ∙ read_of (entered_fault (built cogent_app) (Some (codes "build", words))) (codes "build") (rows_after build_rules [] words))

to_recheck : (words : List Text) → answer (codes "recheck" ∷ words) ≡ out (codes "recheck") recheck_rules recheck_in false (state (codes "recheck") recheck_rules recheck_in false nothing_held 1 false idle) words
unfolding walked walk_fault defaults_fault
to_recheck words = rw (kept (codes "recheck") [] words, calm (codes "recheck") [] words)
    (nil_end (entered_fault (built cogent_app) (Some (codes "recheck", words))) (entered (built cogent_app) (Some (codes "recheck", words)))
    ∙ read_of (entered_fault (built cogent_app) (Some (codes "recheck", words))) (codes "recheck") (rows_after recheck_rules [] words))

to_run : (words : List Text) → answer (codes "run" ∷ words) ≡ out (codes "run") run_rules run_in true (state (codes "run") run_rules run_in true nothing_held 1 false idle) words
unfolding walked walk_fault defaults_fault
to_run words = rw (kept (codes "run") [] words, calm (codes "run") [] words)
    (nil_end (entered_fault (built cogent_app) (Some (codes "run", words))) (entered (built cogent_app) (Some (codes "run", words)))
    ∙ read_of (entered_fault (built cogent_app) (Some (codes "run", words))) (codes "run") (rows_after run_rules [] words))

to_gen : (words : List Text) → answer (codes "gen" ∷ words) ≡ out (codes "gen") gen_rules gen_in false (state (codes "gen") gen_rules gen_in false nothing_held 1 false idle) words
unfolding walked walk_fault defaults_fault
to_gen words = rw (kept (codes "gen") [] words, calm (codes "gen") [] words)
    (nil_end (entered_fault (built cogent_app) (Some (codes "gen", words))) (entered (built cogent_app) (Some (codes "gen", words)))
    ∙ read_of (entered_fault (built cogent_app) (Some (codes "gen", words))) (codes "gen") (rows_after gen_rules [] words))

-- ---- a word that is no command's name

abbrev IsNoName : Text → Type 0
IsNoName w =
    (bytes_eq (codes "check") w ≡ false) × (bytes_eq (codes "build") w ≡ false) × (bytes_eq (codes "recheck") w ≡ false) × (bytes_eq (codes "run") w ≡ false)
    × (bytes_eq (codes "gen") w ≡ false)

behind_dashes : (w : Text) (rest : List Text) → bytes_eq w (codes "--") ≡ true → IsNoName w → answer (w ∷ rest) ≡ None
unfolding walked walk_fault defaults_fault
behind_dashes w [] d n = rw (n.0, n.1, n.2, n.3, n.4, d) refl
behind_dashes w (v ∷ rest) d n = rw (n.0, n.1, n.2, n.3, n.4, d) refl

unknown : (w : Text) (rest : List Text) → IsUtf8 w → Sort false w → IsNoName w → answer (w ∷ rest) ≡ None
unfolding walked walk_fault flags_fault
unknown _ rest u (dashes w d o) n = behind_dashes w rest d n
unknown _ rest u (steps y) n = absurd (true≢false (sym y))
unknown _ rest u (steps_is w v y d i o b l) n = rw (n.0, n.1, n.2, n.3, n.4, d, l) refl
unknown _ rest u (other w q d i o b l m) n = rw (n.0, n.1, n.2, n.3, n.4, d, l) refl
unknown _ rest u (short w x xs d i o b l sh is) n =
    let c = first_char x xs (subst IsUtf8 is u) in
    rw (n.0, n.1, n.2, n.3, n.4, d, l, sh, c.1) refl
unknown _ rest u (plain w d i o l sh) n = rw (n.0, n.1, n.2, n.3, n.4, d, l, sh) refl

same_name : (t w : Text) → bytes_eq t w ≡ true → t ≡ w
same_name t w e = (bytes_eq-Decides t w).0 e

abbrev Means : List Text → Type 0
Means words = answer words ≡ command_of words

by_gen : (w : Text) (rest : List Text) (y : Bool) → IsUtf8 w → AllUtf8 rest → bytes_eq (codes "check") w ≡ false → bytes_eq (codes "build") w ≡ false → bytes_eq (codes "recheck") w ≡ false
    → bytes_eq (codes "run") w ≡ false → bytes_eq (codes "gen") w ≡ y → Means (w ∷ rest)
by_gen w rest true u v a b c d e = subst (λ z. Means (z ∷ rest)) (same_name (codes "gen") w e)
    (to_gen rest ∙ leaf_words (codes "gen") gen_rules gen_in false gen_is_leaf _ _ gen_expects rest v)
by_gen w rest false u v a b c d e = unknown w rest u (sort_of false w) (a, b, c, d, e) ∙ rw (a, b, c, d, e) refl

by_run : (w : Text) (rest : List Text) (y : Bool) → IsUtf8 w → AllUtf8 rest → bytes_eq (codes "check") w ≡ false → bytes_eq (codes "build") w ≡ false → bytes_eq (codes "recheck") w ≡ false
    → bytes_eq (codes "run") w ≡ y → Means (w ∷ rest)
by_run w rest true u v a b c d = subst (λ z. Means (z ∷ rest)) (same_name (codes "run") w d)
    (to_run rest ∙ leaf_words (codes "run") run_rules run_in true run_is_leaf _ _ run_expects rest v)
by_run w rest false u v a b c d = by_gen w rest (bytes_eq (codes "gen") w) u v a b c d refl

by_recheck : (w : Text) (rest : List Text) (y : Bool) → IsUtf8 w → AllUtf8 rest → bytes_eq (codes "check") w ≡ false → bytes_eq (codes "build") w ≡ false → bytes_eq (codes "recheck") w ≡ y
    → Means (w ∷ rest)
by_recheck w rest true u v a b c = subst (λ z. Means (z ∷ rest)) (same_name (codes "recheck") w c)
    (to_recheck rest ∙ leaf_words (codes "recheck") recheck_rules recheck_in false recheck_is_leaf _ _ recheck_expects rest v)
by_recheck w rest false u v a b c = by_run w rest (bytes_eq (codes "run") w) u v a b c refl

by_build : (w : Text) (rest : List Text) (y : Bool) → IsUtf8 w → AllUtf8 rest → bytes_eq (codes "check") w ≡ false → bytes_eq (codes "build") w ≡ y → Means (w ∷ rest)
by_build w rest true u v a b = subst (λ z. Means (z ∷ rest)) (same_name (codes "build") w b)
    (to_build rest ∙ leaf_words (codes "build") build_rules build_in false build_is_leaf _ _ build_expects rest v)
by_build w rest false u v a b = by_recheck w rest (bytes_eq (codes "recheck") w) u v a b refl

by_check : (w : Text) (rest : List Text) (y : Bool) → IsUtf8 w → AllUtf8 rest → bytes_eq (codes "check") w ≡ y → Means (w ∷ rest)
by_check w rest true u v a = subst (λ z. Means (z ∷ rest)) (same_name (codes "check") w a)
    (to_check rest ∙ leaf_words (codes "check") check_rules check_in false check_is_leaf _ _ check_expects rest v)
by_check w rest false u v a = by_build w rest (bytes_eq (codes "build") w) u v a refl

-- clap's answer is the definition's
pub exact : (words : List Text) → AllUtf8 words → answer words ≡ command_of words
exact [] u = empty
exact (w ∷ rest) u = by_check w rest (bytes_eq (codes "check") w) u.0 u.1 refl
