-- What the walk over a command's words needs of what clap was told of it.
use Rattle.std.proofs.Common.{◌≡◌, ◌∙◌, ℕ, Bool, true, false, true≢false, refl, sym, ap, List, [], ◌∷◌, Option, Some, None, fold, min, ◌&&◌, ◌||◌, ◌+◌, not, codes}
use Rattle.std.specs.Prelude.{⊤}
use Rattle.std.specs.List.{list_all, list_any}
use Rattle.std.specs.Str.{bytes_eq}
use Rattle.clap.specs.Words.{Row, Rule, Shape, Text}
use Rattle.clap.specs.Faults.{defaults_fault}
use Rattle.clap.specs.Lexer.{usize_max}
use Rattle.clap.specs.Simple.{built_leaf, filled, inherited, with_index}
use Rattle.clap.specs.Takes.{is_given}
use Rattle.clap.specs.Walk.{arg_by_id, arg_by_index, arg_by_long, arg_by_short, has_row, with_default}
use Rattle.cg_driver_words.specs.Apps.{bare_app, named, name_rule, steps_rule}
use Rattle.cg_driver_words.specs.Words.{Command}
use Rattle.cg_driver_words.proofs.Bools.{same_if}
use Rattle.cg_driver_words.proofs.Rows.{Slot, Known, are_apart, differs, look, row}
use Rattle.cg_base.proofs.Truths.{both_true as and_left, and_right}

-- a name at its position
abbrev pub name_at : ℕ → Text → Rule
name_at p id = with_index p (filled (name_rule id))

-- the option
abbrev pub steps_arg : Rule
steps_arg = filled steps_rule

-- a command with these arguments, as clap builds it below `cogent`
abbrev pub leaf : Text → List Rule → Shape
leaf word rules = record (built_leaf (inherited bare_app.top (named word []).top)) { rules = rules }

abbrev pub has_none : List Text → Bool
has_none [] = true
has_none (x ∷ xs) = false

-- no argument is found under another name than its own, and none has a value of its own
pub record IsLeaf (has_steps : Bool) (rules : List Rule) : Type 0 where
  pub steps_long : has_steps ≡ true → arg_by_long rules (codes "steps") ≡ Some steps_arg
  pub steps_id : has_steps ≡ true → arg_by_id rules (codes "steps") ≡ Some steps_arg
  pub other : (name : Text) → (has_steps && bytes_eq (codes "steps") name) ≡ false → arg_by_long rules name ≡ None
  pub short : (x : ℕ) → arg_by_short rules x ≡ None
  pub bare : list_all (λ a. has_none a.defaults) rules ≡ true

-- the names stand at the positions from p on, and nothing behind them
abbrev pub Numbered : List Rule → ℕ → List Text → Type 0
Numbered rules p [] = arg_by_index rules p ≡ None
Numbered rules p (id ∷ ids) = (arg_by_index rules p ≡ Some (name_at p id)) × (arg_by_id rules id ≡ Some (name_at p id)) × Numbered rules (min (p + 1) usize_max) ids

abbrev pub as_many : List Text → List Text → Bool
as_many [] [] = true
as_many [] (v ∷ vs) = false
as_many (id ∷ ids) [] = false
as_many (id ∷ ids) (v ∷ vs) = as_many ids vs

-- the names have these values
abbrev pub Given : List Row → List Text → List Text → Type 0
Given rows [] [] = ⊤
Given rows [] (v ∷ vs) = ⊥
Given rows (id ∷ ids) [] = ⊥
Given rows (id ∷ ids) (v ∷ vs) = (look id rows ≡ Some (row id v)) × Given rows ids vs

abbrev pub listed : Option Text → List Text
listed None = []
listed (Some v) = v ∷ []

-- a value of the option is given only to a command that has it
abbrev pub Allowed : Bool → Option Text → Type 0
Allowed has_steps None = ⊤
Allowed has_steps (Some v) = has_steps ≡ true

-- by which names and values of the option a command is meant
abbrev pub Meaning : Type 0
Meaning = List Text → List Text → Option Command

-- where some names are known: what is left of the names, at the positions from p on, and what is meant by their values
pub record Expects (has_steps : Bool) (rules : List Rule) (read : List Row → Option Command) (left : List Text) (p : ℕ) (means : Meaning) (known : List (Text × Text)) : Type 0 where
  pub numbered : Numbered rules p left
  pub apart : are_apart left ≡ true
  pub no_steps : differs (codes "steps") left ≡ true
  pub lacks : (rows : List Row) → Known rows known → list_any (λ a. a.required && not (is_given a.id rows)) rules ≡ list_any (λ id. not (is_given id rows)) left
  pub reads : (rows : List Row) (vs : List Text) (n : Option Text) → Allowed has_steps n → Known rows known → Given rows left vs → Slot rows (codes "steps") n → read rows ≡ means vs (listed n)
  pub wrong : (names values : List Text) → as_many left names ≡ false → means names values ≡ None
  pub twice : (names : List Text) (a b : Text) (values : List Text) → means names (a ∷ b ∷ values) ≡ None

abbrev pub behind : Text → Meaning → Meaning
behind v means names values = means (v ∷ names) values

-- with one more name known
pub expects_next : (has_steps : Bool) (rules : List Rule) (read : List Row → Option Command) (id v : Text) (left : List Text) (p : ℕ) (means : Meaning) (known : List (Text × Text))
    → Expects has_steps rules read (id ∷ left) p means known → Expects has_steps rules read left (min (p + 1) usize_max) (behind v means) ((id, v) ∷ known)
expects_next has_steps rules read id v left p means known x = record {
  numbered = x.numbered.2;
  apart = and_right (differs id (codes "steps" ∷ left)) (are_apart left) x.apart;
  no_steps = and_right (not (bytes_eq (codes "steps") id)) (differs (codes "steps") left) x.no_steps;
  lacks = λ rows k. x.lacks rows k.1 ∙ rw k.0 refl;
  reads = λ rows vs n a k g e. x.reads rows (v ∷ vs) n a k.1 (k.0, g) e;
  wrong = λ names values e. x.wrong (v ∷ names) values e;
  twice = λ names a b values. x.twice (v ∷ names) a b values;
}

-- ---- no argument has a default

none_is : (l : List Text) → has_none l ≡ true → l ≡ []
none_is [] e = refl
none_is (x ∷ xs) e = absurd (true≢false (sym e))

one_default : (a : Rule) (rows : List Row) → a.defaults ≡ [] → with_default rows a ≡ rows
one_default a rows e = rw e (same_if (has_row a.id rows) rows)

pub no_default : (rules : List Rule) (rows : List Row) → list_all (λ a. has_none a.defaults) rules ≡ true → fold with_default rows rules ≡ rows
no_default [] rows e = refl
no_default (a ∷ rest) rows e =
    let none = none_is a.defaults (and_left (has_none a.defaults) (list_all (λ x. has_none x.defaults) rest) e) in
    ap (λ r. fold with_default r rest) (one_default a rows none) ∙ no_default rest rows (and_right (has_none a.defaults) (list_all (λ x. has_none x.defaults) rest) e)

or_true : (b : Bool) → (b || true) ≡ true
or_true true = refl
or_true false = refl

past_default : (a : Rule) (rest : List Rule) (rows : List Row) → a.defaults ≡ [] → defaults_fault rows (a ∷ rest) ≡ defaults_fault rows rest
unfolding defaults_fault
past_default a rest rows e = rw (e, or_true (has_row a.id rows)) (ap (λ r. defaults_fault r rest) (same_if (has_row a.id rows) rows))

pub no_default_fault : (rules : List Rule) (rows : List Row) → list_all (λ a. has_none a.defaults) rules ≡ true → defaults_fault rows rules ≡ []
unfolding defaults_fault
no_default_fault [] rows e = refl
no_default_fault (a ∷ rest) rows e =
    let none = none_is a.defaults (and_left (has_none a.defaults) (list_all (λ x. has_none x.defaults) rest) e) in
    past_default a rest rows none ∙ no_default_fault rest rows (and_right (has_none a.defaults) (list_all (λ x. has_none x.defaults) rest) e)
