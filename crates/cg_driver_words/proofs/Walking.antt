-- clap's walk over the words behind a command's name, whatever its names: what it gives is what the definition says.
use Rattle.std.proofs.Common.{◌≡◌, ◌∙◌, ℕ, Bool, true, false, true≢false, refl, sym, ap, append-nil, List, [], ◌∷◌, ◌++◌, Option, Some, None, option_map, option_and_then, is_some, codes, fold, slice_get, subst, IsUtf8, min, ◌&&◌, ◌+◌}
use Rattle.std.specs.Str.{bytes_eq}
use Rattle.clap.specs.Words.{Kinds, Row, Rule, Shape, Text}
use Rattle.clap.specs.Faults.{check_fault, defaults_fault, flags_fault, settle_fault, turn_fault, walk_fault}
use Rattle.clap.specs.Kinds.{or_else}
use Rattle.clap.specs.Lexer.{usize_max, long_of, short_of}
use Rattle.clap.specs.Walk.{Held, Waiting, Walk, arg_by_id, finished, idle, is_pending, nothing_held, option, settled, used, walked}
use Rattle.cg_driver_words.specs.Matches.{command_from, command_in}
use Rattle.cg_driver_words.specs.Words.{Command, Sorted, called, all_names, sorted, with_name, with_value}
use Rattle.cg_driver_words.proofs.Bools.{never, same_if}
use Rattle.cg_driver_words.proofs.Rows.{HasRows, a_row, are_apart, differs, fresh_nothing, no_row, row, used_is, with_name_row, with_steps_row}
use Rattle.cg_driver_words.proofs.Rules.{Allowed, Expects, IsLeaf, Meaning, Numbered, behind, expects_next, leaf, listed, name_at, no_default, no_default_fault, steps_arg}
use Rattle.cg_driver_words.proofs.Sorts.{AllUtf8, Sort, dashes, first_char, other, plain, short, sort_of, steps, steps_is}
use Rattle.cg_base.proofs.Truths.{both_true as and_left}

-- what is read, where there is no fault
abbrev unless : Kinds → Option Command → Option Command
unless [] command = command
unless (kind ∷ kinds) command = None

pub read_of : (kinds : Kinds) (name : Text) (rows : List Row) → command_from kinds (Some (name, rows)) ≡ unless kinds (command_in name rows)
read_of [] name rows = refl
read_of (kind ∷ kinds) name rows = refl

abbrev some_fault : Kinds → Type 0
some_fault a = is_some (slice_get a 0) ≡ true

again : (a b k : Kinds) (x : Option Command) → a ≡ [] → unless (or_else (or_else a b) k) x ≡ unless (or_else b k) x
again a b k x e = rw e refl

ends : (a b k : Kinds) (x : Option Command) → some_fault a → unless (or_else (or_else a b) k) x ≡ None
ends [] b k x e = absurd (true≢false (sym e))
ends (y ∷ ys) b k x e = refl

ends_late : (a b : Kinds) (x : Option Command) → some_fault a → unless (or_else a b) x ≡ None
ends_late [] b x e = absurd (true≢false (sym e))
ends_late (y ∷ ys) b x e = refl

or_first : (a b : Kinds) → some_fault a → some_fault (or_else a b)
or_first [] b e = absurd (true≢false (sym e))
or_first (y ∷ ys) b e = refl

-- ---- what is meant

abbrev meant : Option Text → Meaning → Option Sorted → Option Command
meant n means o = option_and_then (λ q. means q.names (listed n ++ q.values)) o

no_more : (n : Option Text) (means : Meaning) (names : List Text) → means names (listed n) ≡ meant n means (Some (all_names names))
no_more n means names = ap (means names) (sym (append-nil (listed n)))

once : (means : Meaning) (v : Text) (o : Option Sorted) → meant (Some v) means o ≡ meant None means (option_map (with_value v) o)
once means v None = refl
once means v (Some q) = refl

one_name : (n : Option Text) (means : Meaning) (v : Text) (o : Option Sorted) → meant n (behind v means) o ≡ meant n means (option_map (with_name v) o)
one_name n means v None = refl
one_name n means v (Some q) = refl

all_of : (means : Meaning) (o : Option Sorted) → meant None means o ≡ called means o
all_of means None = refl
all_of means (Some q) = refl

module _ (word : Text) (rules : List Rule) (read : List Row → Option Command) (has_steps : Bool) where
  too_many : (n : Option Text) (p : ℕ) (means : Meaning) (known : List (Text × Text)) (v : Text) (o : Option Sorted)
      → Expects has_steps rules read [] p means known → None ≡ meant n means (option_map (with_name v) o)
  too_many n p means known v None x = refl
  too_many n p means known v (Some q) x = sym (x.wrong (v ∷ q.names) (listed n ++ q.values) refl)

  second : (left : List Text) (p : ℕ) (means : Meaning) (known : List (Text × Text)) (a b : Text) (o : Option Sorted)
      → Expects has_steps rules read left p means known → None ≡ meant (Some a) means (option_map (with_value b) o)
  second left p means known a b None x = refl
  second left p means known a b (Some q) x = sym (x.twice q.names a b q.values)

  -- ---- the walk

  abbrev shape : Shape
  shape = leaf word rules

  abbrev close : Held → Kinds
  close h = or_else (settle_fault rules false h) (or_else (defaults_fault (settled rules h).rows rules) (check_fault shape (finished rules h) false))

  -- what the words lead to from a walk
  abbrev pub out : Walk → List Text → Option Command
  out w words =
      let end = (fold (walked rules []) w words).held in
      unless (or_else (walk_fault shape [] w words) (close end)) (read (finished rules end))

  abbrev pub state : Held → ℕ → Bool → Waiting → Walk
  state h p t wt = record { held = h; waiting = wt; position = p; is_trailing = t; stopped = None }

  -- a word that passes, and one that is refused
  go_on : (w next : Walk) (v : Text) (rest : List Text) → turn_fault shape [] w v ≡ [] → walked rules [] w v ≡ next → out w (v ∷ rest) ≡ out next rest
  unfolding walk_fault
  go_on w next v rest e f = again _ _ _ _ e ∙ ap (λ z. out z rest) f

  stop : (w : Walk) (v : Text) (rest : List Text) → some_fault (turn_fault shape [] w v) → out w (v ∷ rest) ≡ None
  unfolding walk_fault
  stop w v rest e = ends _ _ _ _ e

  -- ---- what is held

  abbrev rows_in : Held → List Row
  rows_in h = (settled rules h).rows

  abbrev pushed_at : Text → Text → Held → Held
  pushed_at id v h = record (settled rules h) { pending = Some (id, v ∷ []) }

  -- behind the word `--steps`
  abbrev asked : Held → Held
  asked h = record (settled rules h) { pending = Some (codes "steps", []) }

  -- behind the word `--steps=N`
  abbrev attached_to : Text → Held → Held
  attached_to v h = record h { rows = used steps_arg (v ∷ []) (rows_in h); pending = None }

  record Stands (left : List Text) (n : Option Text) (known : List (Text × Text)) (h : Held) : Type 0 where
    has : HasRows left n known (rows_in h)
    allowed : Allowed has_steps n
    calm : settle_fault rules false h ≡ []
    skip : h.skip ≡ 0

  name_given : (id v : Text) (left : List Text) (p : ℕ) (n : Option Text) (means : Meaning) (known : List (Text × Text)) (h : Held)
      → Expects has_steps rules read (id ∷ left) p means known → Stands (id ∷ left) n known h → Stands left n ((id, v) ∷ known) (pushed_at id v h)
  name_given id v left p n means known h x st =
      let grown : rows_in (pushed_at id v h) ≡ rows_in h ++ row id v ∷ [] = rw (x.numbered.1) (used_is (name_at p id) v (rows_in h) refl refl st.has.fresh.0) in
      record {
        has = subst (HasRows left n ((id, v) ∷ known)) (sym grown)
            (with_name_row id v left n known (rows_in h) (and_left (differs id (codes "steps" ∷ left)) (are_apart left) x.apart) st.has);
        allowed = st.allowed;
        calm = rw (x.numbered.1, no_row id (rows_in h) st.has.fresh.0) refl;
        skip = st.skip;
      }

  steps_given : (v : Text) (left : List Text) (p : ℕ) (means : Meaning) (known : List (Text × Text)) (h : Held)
      → has_steps ≡ true → arg_by_id rules (codes "steps") ≡ Some steps_arg → Expects has_steps rules read left p means known → Stands left None known h
      → Stands left (Some v) known (pushed_at (codes "steps") v h)
  steps_given v left p means known h y by x st =
      let grown : rows_in (pushed_at (codes "steps") v h) ≡ rows_in h ++ row (codes "steps") v ∷ [] = rw by (used_is steps_arg v (rows_in h) refl refl st.has.steps) in
      record {
        has = subst (HasRows left (Some v) known) (sym grown) (with_steps_row v left known (rows_in h) x.no_steps st.has);
        allowed = y;
        calm = rw (by, no_row (codes "steps") (rows_in h) st.has.steps) refl;
        skip = st.skip;
      }

  steps_attached : (v : Text) (left : List Text) (p : ℕ) (means : Meaning) (known : List (Text × Text)) (h : Held)
      → has_steps ≡ true → Expects has_steps rules read left p means known → Stands left None known h → Stands left (Some v) known (attached_to v h)
  steps_attached v left p means known h y x st = record {
    has = subst (HasRows left (Some v) known) (sym (used_is steps_arg v (rows_in h) refl refl st.has.steps)) (with_steps_row v left known (rows_in h) x.no_steps st.has);
    allowed = y;
    calm = refl;
    skip = st.skip;
  }

  -- ---- the end

  finish : (left : List Text) (p : ℕ) (n : Option Text) (means : Meaning) (known : List (Text × Text)) (rows : List Row)
      → Expects has_steps rules read left p means known → Allowed has_steps n → HasRows left n known rows → unless (check_fault shape rows false) (read rows) ≡ means [] (listed n)
  finish [] p n means known rows x a has = rw (x.lacks rows has.values) (x.reads rows [] n a has.values tt has.steps)
  finish (id ∷ left) p n means known rows x a has = rw (x.lacks rows has.values, has.fresh.0) (sym (x.wrong [] (listed n) refl))

  module _ (is : IsLeaf has_steps rules) where
    ended : (left : List Text) (p : ℕ) (t : Bool) (n : Option Text) (means : Meaning) (known : List (Text × Text)) (h : Held)
        → Expects has_steps rules read left p means known → Stands left n known h → out (state h p t idle) [] ≡ means [] (listed n)
    unfolding walk_fault
    ended left p t n means known h x st =
        rw (st.calm, no_default_fault rules (rows_in h) is.bare, no_default rules (rows_in h) is.bare) (finish left p n means known (rows_in h) x st.allowed st.has)

    -- ---- behind `--`

    trailing : (words left : List Text) (p : ℕ) (n : Option Text) (means : Meaning) (known : List (Text × Text)) (h : Held)
        → Expects has_steps rules read left p means known → Stands left n known h → out (state h p true idle) words ≡ means words (listed n)
    unfolding walked
    trailing [] left p n means known h x st = ended left p true n means known h x st
    trailing (w ∷ rest) [] p n means known h x st = stop (state h p true idle) w rest (rw (x.numbered) refl) ∙ sym (x.wrong (w ∷ rest) (listed n) refl)
    trailing (w ∷ rest) (id ∷ left) p n means known h x st =
        go_on (state h p true idle) (state (pushed_at id w h) (min (p + 1) usize_max) true idle) w rest
        (rw (x.numbered.0, st.calm) (same_if (is_pending (name_at p id) h.pending && false) []))
        (rw (x.numbered.0) (rw (never (is_pending (name_at p id) h.pending) h (settled rules h)) refl))
        ∙ trailing rest left (min (p + 1) usize_max) n (behind w means) ((id, w) ∷ known) (pushed_at id w h)
        (expects_next has_steps rules read id w left p means known x) (name_given id w left p n means known h x st)

    -- ---- a fault that has to come

    at_end : (h : Held) (p : ℕ) (t : Bool) (wt : Waiting) → some_fault (settle_fault rules false h) → out (state h p t wt) [] ≡ None
    unfolding walk_fault
    at_end h p t wt e = ends_late (settle_fault rules false h) _ _ e

    name_fault : (left : List Text) (h : Held) (p : ℕ) (w : Text) (wt : Waiting) → Numbered rules p left → some_fault (settle_fault rules false h)
        → some_fault (turn_fault shape [] (state h p true wt) w)
    name_fault [] h p w wt place e = rw place refl
    name_fault (id ∷ left) h p w wt place e = rw (place.0) (rw (never (is_pending (name_at p id) h.pending) [] (settle_fault rules false h)) e)

    doomed_behind : (words left : List Text) (h : Held) (p : ℕ) (wt : Waiting) → Numbered rules p left → some_fault (settle_fault rules false h)
        → out (state h p true wt) words ≡ None
    doomed_behind [] left h p wt place e = at_end h p true wt e
    doomed_behind (w ∷ rest) left h p wt place e = stop (state h p true wt) w rest (name_fault left h p w wt place e)

    plain_fault : (left : List Text) (h : Held) (p : ℕ) (w : Text) → Numbered rules p left → bytes_eq w (codes "--") ≡ false → long_of w ≡ None → short_of w ≡ None
        → some_fault (settle_fault rules false h) → some_fault (turn_fault shape [] (state h p false idle) w)
    plain_fault [] h p w place d l sh e = rw (d, l, sh, place) refl
    plain_fault (id ∷ left) h p w place d l sh e = rw (d, l, sh, place.0) (rw (never (is_pending (name_at p id) h.pending) [] (settle_fault rules false h)) e)

    doomed_word : (w : Text) (rest left : List Text) (h : Held) (p : ℕ) → Sort has_steps w → IsUtf8 w → Numbered rules p left → h.skip ≡ 0
        → some_fault (settle_fault rules false h) → out (state h p false idle) (w ∷ rest) ≡ None
    unfolding walked flags_fault
    doomed_word _ rest left h p (dashes w d o) u place z e =
        go_on (state h p false idle) (state h p true idle) w rest (rw d refl) (rw d refl) ∙ doomed_behind rest left h p idle place e
    doomed_word _ rest left h p (steps y) u place z e = stop (state h p false idle) (codes "--steps") rest (rw (is.steps_long y) (or_first (settle_fault rules false h) _ e))
    doomed_word _ rest left h p (steps_is w v y d i o b l) u place z e =
        stop (state h p false idle) w rest (rw (d, l, is.steps_long y) (or_first _ _ (or_first (settle_fault rules false h) _ e)))
    doomed_word _ rest left h p (other w q d i o b l m) u place z e = stop (state h p false idle) w rest (rw (d, l, is.other q.0 m) refl)
    doomed_word _ rest left h p (short w x xs d i o b l sh eq) u place z e =
        let c = first_char x xs (subst IsUtf8 eq u) in
        stop (state h p false idle) w rest (rw (d, l, sh, z, c.1, is.short c.0) refl)
    doomed_word _ rest left h p (plain w d i o l sh) u place z e = stop (state h p false idle) w rest (plain_fault left h p w place d l sh e)

    doomed : (words left : List Text) (h : Held) (p : ℕ) → AllUtf8 words → Numbered rules p left → h.skip ≡ 0 → some_fault (settle_fault rules false h)
        → out (state h p false idle) words ≡ None
    doomed [] left h p u place z e = at_end h p false idle e
    doomed (w ∷ rest) left h p u place z e = doomed_word w rest left h p (sort_of has_steps w) u.0 place z e

    -- ---- a word

    abbrev Holds : List Text → Type 0
    Holds words = (left : List Text) (p : ℕ) (n : Option Text) (means : Meaning) (known : List (Text × Text)) (h : Held)
        → Expects has_steps rules read left p means known → Stands left n known h → out (state h p false idle) words ≡ meant n means (sorted has_steps false words)

    abbrev Waits : List Text → Type 0
    Waits words = has_steps ≡ true → (left : List Text) (p : ℕ) (n : Option Text) (means : Meaning) (known : List (Text × Text)) (h : Held)
        → Expects has_steps rules read left p means known → Stands left n known h → out (state (asked h) p false (option (codes "steps"))) words ≡ meant n means (sorted has_steps true words)

    on_steps_is : (w v : Text) (rest left : List Text) (p : ℕ) (n : Option Text) (means : Meaning) (known : List (Text × Text)) (h : Held) → has_steps ≡ true
        → Expects has_steps rules read left p means known → Stands left n known h → bytes_eq w (codes "--") ≡ false → long_of w ≡ Some (codes "steps", Some v) → Holds rest
        → out (state h p false idle) (w ∷ rest) ≡ meant n means (option_map (with_value v) (sorted has_steps false rest))
    unfolding walked
    on_steps_is w v rest left p None means known h y x st d l ih =
        go_on (state h p false idle) (state (attached_to v h) p false idle) w rest
        (rw (d, l, is.steps_long y, st.calm, no_row (codes "steps") (rows_in h) st.has.steps) refl) (rw (d, l, is.steps_long y) refl)
        ∙ ih left p (Some v) means known (attached_to v h) x (steps_attached v left p means known h y x st) ∙ once means v (sorted has_steps false rest)
    on_steps_is w v rest left p (Some a) means known h y x st d l ih =
        stop (state h p false idle) w rest (rw (d, l, is.steps_long y, st.calm, a_row (codes "steps") a (rows_in h) st.has.steps) refl)
        ∙ second left p means known a v (sorted has_steps false rest) x

    on_name : (w : Text) (rest left : List Text) (p : ℕ) (n : Option Text) (means : Meaning) (known : List (Text × Text)) (h : Held)
        → Expects has_steps rules read left p means known → Stands left n known h → bytes_eq w (codes "--") ≡ false → long_of w ≡ None → short_of w ≡ None → Holds rest
        → out (state h p false idle) (w ∷ rest) ≡ meant n means (option_map (with_name w) (sorted has_steps false rest))
    unfolding walked
    on_name w rest [] p n means known h x st d l sh ih =
        stop (state h p false idle) w rest (rw (d, l, sh, x.numbered) refl) ∙ too_many n p means known w (sorted has_steps false rest) x
    on_name w rest (id ∷ left) p n means known h x st d l sh ih =
        go_on (state h p false idle) (state (pushed_at id w h) (min (p + 1) usize_max) false idle) w rest
        (rw (d, l, sh, x.numbered.0, st.calm) (same_if (is_pending (name_at p id) h.pending && false) []))
        (rw (d, l, sh, x.numbered.0) (rw (never (is_pending (name_at p id) h.pending) h (settled rules h)) refl))
        ∙ ih left (min (p + 1) usize_max) n (behind w means) ((id, w) ∷ known) (pushed_at id w h)
        (expects_next has_steps rules read id w left p means known x) (name_given id w left p n means known h x st)
        ∙ one_name n means w (sorted has_steps false rest)

    on_word : (w : Text) (rest left : List Text) (p : ℕ) (n : Option Text) (means : Meaning) (known : List (Text × Text)) (h : Held) → Sort has_steps w → IsUtf8 w
        → Holds rest → Waits rest → Expects has_steps rules read left p means known → Stands left n known h
        → out (state h p false idle) (w ∷ rest) ≡ meant n means (sorted has_steps false (w ∷ rest))
    unfolding walked flags_fault
    on_word _ rest left p n means known h (dashes w d o) u ih wait x st =
        go_on (state h p false idle) (state h p true idle) w rest (rw d refl) (rw d refl)
        ∙ rw d (trailing rest left p n means known h x st ∙ no_more n means rest)
    on_word _ rest left p n means known h (steps y) u ih wait x st =
        go_on (state h p false idle) (state (asked h) p false (option (codes "steps"))) (codes "--steps") rest (rw (is.steps_long y, st.calm) refl) (rw (is.steps_long y) refl)
        ∙ rw y (wait y left p n means known h x st)
    on_word _ rest left p n means known h (steps_is w v y d i o b l) u ih wait x st = rw (d, i, o, b) (on_steps_is w v rest left p n means known h y x st d l ih)
    on_word _ rest left p n means known h (other w q d i o b l m) u ih wait x st = stop (state h p false idle) w rest (rw (d, l, is.other q.0 m) refl) ∙ rw (d, i, o, b) refl
    on_word _ rest left p n means known h (short w y ys d i o b l sh eq) u ih wait x st =
        let c = first_char y ys (subst IsUtf8 eq u) in
        stop (state h p false idle) w rest (rw (d, l, sh, st.skip, c.1, is.short c.0) refl) ∙ rw (d, i, o, b) refl
    on_word _ rest left p n means known h (plain w d i o l sh) u ih wait x st = on_name w rest left p n means known h x st d l sh ih ∙ rw (d, i, o) refl

    -- ---- the word behind `--steps`

    on_plain_value : (v : Text) (rest left : List Text) (p : ℕ) (n : Option Text) (means : Meaning) (known : List (Text × Text)) (h : Held) → has_steps ≡ true → AllUtf8 rest
        → Holds rest → Expects has_steps rules read left p means known → Stands left n known h
        → out (state (pushed_at (codes "steps") v h) p false idle) rest ≡ meant n means (option_map (with_value v) (sorted has_steps false rest))
    on_plain_value v rest left p None means known h y u ih x st =
        ih left p (Some v) means known (pushed_at (codes "steps") v h) x (steps_given v left p means known h y (is.steps_id y) x st) ∙ once means v (sorted has_steps false rest)
    on_plain_value v rest left p (Some a) means known h y u ih x st =
        doomed rest left (pushed_at (codes "steps") v h) p u x.numbered st.skip (rw (is.steps_id y, a_row (codes "steps") a (rows_in h) st.has.steps) refl)
        ∙ second left p means known a v (sorted has_steps false rest) x

    empty_fault : (h : Held) → has_steps ≡ true → some_fault (settle_fault rules false (asked h))
    empty_fault h y = rw (is.steps_id y) refl

    on_value : (w : Text) (rest left : List Text) (p : ℕ) (n : Option Text) (means : Meaning) (known : List (Text × Text)) (h : Held) → has_steps ≡ true
        → Sort has_steps w → IsUtf8 w → AllUtf8 rest → Holds rest → Expects has_steps rules read left p means known → Stands left n known h
        → out (state (asked h) p false (option (codes "steps"))) (w ∷ rest) ≡ meant n means (sorted has_steps true (w ∷ rest))
    unfolding walked flags_fault
    on_value _ rest left p n means known h y (dashes w d o) u us ih x st =
        go_on (state (asked h) p false (option (codes "steps"))) (state (asked h) p true (option (codes "steps"))) w rest (rw d refl) (rw d refl)
        ∙ doomed_behind rest left (asked h) p (option (codes "steps")) x.numbered (empty_fault h y) ∙ rw o refl
    on_value _ rest left p n means known h y (steps z) u us ih x st =
        stop (state (asked h) p false (option (codes "steps"))) (codes "--steps") rest (rw (is.steps_long y) (or_first (settle_fault rules false (asked h)) _ (empty_fault h y)))
    on_value _ rest left p n means known h y (steps_is w v z d i o b l) u us ih x st =
        stop (state (asked h) p false (option (codes "steps"))) w rest
        (rw (d, l, is.steps_long y) (or_first _ _ (or_first (settle_fault rules false (asked h)) _ (empty_fault h y)))) ∙ rw o refl
    on_value _ rest left p n means known h y (other w q d i o b l m) u us ih x st =
        stop (state (asked h) p false (option (codes "steps"))) w rest (rw (d, l, is.other q.0 m) refl) ∙ rw o refl
    on_value _ rest left p n means known h y (short w b1 bs d i o b l sh eq) u us ih x st =
        let c = first_char b1 bs (subst IsUtf8 eq u) in
        stop (state (asked h) p false (option (codes "steps"))) w rest (rw (d, l, sh, st.skip, c.1, is.short c.0) refl) ∙ rw o refl
    on_value _ rest left p n means known h y (plain w d i o l sh) u us ih x st =
        go_on (state (asked h) p false (option (codes "steps"))) (state (pushed_at (codes "steps") w h) p false idle) w rest
        (rw (d, l, sh) refl) (rw (d, l, sh, is.steps_id y) refl)
        ∙ on_plain_value w rest left p n means known h y us ih x st ∙ rw o refl

    both : (words : List Text) → AllUtf8 words → Holds words × Waits words
    both [] u = (
      λ left p n means known h x st. ended left p false n means known h x st ∙ no_more n means [],
      λ y left p n means known h x st. at_end (asked h) p false (option (codes "steps")) (empty_fault h y),
    )
    both (w ∷ rest) u =
        let ih = both rest u.1 in (
          λ left p n means known h x st. on_word w rest left p n means known h (sort_of has_steps w) u.0 ih.0 ih.1 x st,
          λ y left p n means known h x st. on_value w rest left p n means known h y (sort_of has_steps w) u.0 u.1 ih.0 x st,
        )

    -- clap's answer at the words behind a command's name is the definition's
    pub leaf_words : (ids : List Text) (means : Meaning) → Expects has_steps rules read ids 1 means [] → (words : List Text) → AllUtf8 words
        → out (state nothing_held 1 false idle) words ≡ called means (sorted has_steps false words)
    leaf_words ids means x words u = (both words u).0 ids 1 None means [] nothing_held x (record {
      has = record { fresh = fresh_nothing ids; steps = refl; values = tt };
      allowed = tt;
      calm = refl;
      skip = refl;
    }) ∙ all_of means (sorted has_steps false words)
