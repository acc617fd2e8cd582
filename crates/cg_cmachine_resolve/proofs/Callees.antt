-- What names of a program lead to.
use Rattle.std.proofs.Common.{◌≡◌, ℕ, zero, suc, ◌+◌, ◌<◌, Bool, true, false, cond, Some, None, Option, List, [], ◌∷◌, length, get_or, slice_get, map, refl, sym, ap, ◌∙◌, subst, arith, bytes_eq, Bor, is_some, MatchOption, option_map}
use Rattle.std.proofs.lemmas.Bool.{true≢false}
use Rattle.std.proofs.lemmas.Option.{get_or_from_slice_get}
use Rattle.std.specs.List.{position_from}
use Rattle.cg_cmachine_builtins.specs.declared.built_in.BuiltIn.{BuiltIn}
use Rattle.cg_cmachine_builtins.specs.Called.{built_in_of}
use Rattle.cg_cmachine_resolve.specs.declared.line.Callee.TheVariants as callee
use Rattle.cg_cmachine_resolve.specs.Indexes.{Indexes, Table, place}
use Rattle.cg_cmachine_resolve.specs.Lines.{Calls, IsAt, Whole, linked}
use Rattle.cg_cmachine_def.specs.BuiltIns.{built_in}
use Rattle.cg_cmachine_def.specs.Runs as runs
use Rattle.cg_cmachine_def.specs.Runs.{abstract', find, linked_to, own, without_body}
use Rattle.cg_ctree.specs.declared.tree.CBody.{CBody}
use Rattle.cg_ctree.specs.declared.tree.CFun.{CFun}
use Rattle.cg_ctree.specs.Trees.{body_of, function_of}
use Rattle.cg_heap.specs.declared.foreign.Link.{Link}

-- ---- the first function of a name

function_none : (x : List ℕ) (fs : List CFun) (i : ℕ) → position_from (bytes_eq x) i (map (λ f. f.name) fs) ≡ None → find x (map function_of fs) ≡ None
function_none x [] i e = refl
function_none x (f ∷ fs) i e = pick (bytes_eq x f.name) e (function_none x fs (i + 1))
  where
    pick : (b : Bool) → cond b (Some i) (position_from (bytes_eq x) (i + 1) (map (λ f. f.name) fs)) ≡ None
        → (position_from (bytes_eq x) (i + 1) (map (λ f. f.name) fs) ≡ None → find x (map function_of fs) ≡ None)
        → cond b (Some (function_of f)) (find x (map function_of fs)) ≡ None
    pick true e h = absurd (cc)
    pick false e h = h e

-- where it stands
record Stands (x : List ℕ) (fs : List CFun) (k : ℕ) : Type 0 where
  pub function : CFun
  pub stands : slice_get fs k ≡ Some function
  pub found : find x (map function_of fs) ≡ Some (function_of function)

function_some : (x : List ℕ) (fs : List CFun) (i at : ℕ) → position_from (bytes_eq x) i (map (λ f. f.name) fs) ≡ Some at → (k : ℕ) × (i + k ≡ at) × Stands x fs k
function_some x [] i at e = absurd (cc)
function_some x (f ∷ fs) i at e = pick (bytes_eq x f.name) refl e (function_some x fs (i + 1) at)
  where
    pick : (b : Bool) → bytes_eq x f.name ≡ b → cond b (Some i) (position_from (bytes_eq x) (i + 1) (map (λ f. f.name) fs)) ≡ Some at
        → (position_from (bytes_eq x) (i + 1) (map (λ f. f.name) fs) ≡ Some at → (k : ℕ) × ((i + 1) + k ≡ at) × Stands x fs k) → (k : ℕ) × (i + k ≡ at) × Stands x (f ∷ fs) k
    pick true here e h = (0, (let same : i ≡ at = cc in omega arith), record { function = f; stands = refl; found = rw here refl })
    pick false apart e h = let later = h e in (suc later.0, omega (arith, later.1), record { function = later.2.function; stands = later.2.stands; found = rw apart later.2.found })

pub is_at : (w : Whole) (i : ℕ) (P : CFun → Type 0) (f : CFun) → slice_get w.program.funs i ≡ Some f → P f → IsAt w i P
is_at w i P f e p = rw e p

pub finds : (x : List ℕ) (w : Whole) (table : Table) (at : Option ℕ) → Indexes (map (λ f. f.name) w.program.funs) table → at ≡ place table x
    → MatchOption at (find x (map function_of w.program.funs) ≡ None) (λ i. IsAt w i (λ f. find x (map function_of w.program.funs) ≡ Some (function_of f)))
finds x w table None is e = function_none x w.program.funs 0 (sym (is.first x) ∙ sym e)
finds x w table (Some at) is e =
    let found = function_some x w.program.funs 0 at (sym (is.first x) ∙ sym e) in
    let same : found.0 ≡ at = omega (arith, found.1) in
    is_at w at _ found.2.function (ap (slice_get w.program.funs) (sym same) ∙ found.2.stands) found.2.found

-- ---- the first link of a function's name

link_none : (x : List ℕ) (ls : List Link) (i : ℕ) → position_from (bytes_eq x) i (map (λ l. l.c) ls) ≡ None → linked_to x ls ≡ None
link_none x [] i e = refl
link_none x (l ∷ ls) i e = pick (bytes_eq x l.c) e (link_none x ls (i + 1))
  where
    pick : (b : Bool) → cond b (Some i) (position_from (bytes_eq x) (i + 1) (map (λ l. l.c) ls)) ≡ None
        → (position_from (bytes_eq x) (i + 1) (map (λ l. l.c) ls) ≡ None → linked_to x ls ≡ None) → cond b (Some l.name) (linked_to x ls) ≡ None
    pick true e h = absurd (cc)
    pick false e h = h e

-- where it stands
pub record Links (x : List ℕ) (ls : List Link) (k : ℕ) : Type 0 where
  pub within : k < length ls
  pub named : (d : Link) → linked_to x ls ≡ Some (get_or ls k d).name

link_some : (x : List ℕ) (ls : List Link) (i at : ℕ) → position_from (bytes_eq x) i (map (λ l. l.c) ls) ≡ Some at → (k : ℕ) × (i + k ≡ at) × Links x ls k
link_some x [] i at e = absurd (cc)
link_some x (l ∷ ls) i at e = pick (bytes_eq x l.c) refl e (link_some x ls (i + 1) at)
  where
    pick : (b : Bool) → bytes_eq x l.c ≡ b → cond b (Some i) (position_from (bytes_eq x) (i + 1) (map (λ l. l.c) ls)) ≡ Some at
        → (position_from (bytes_eq x) (i + 1) (map (λ l. l.c) ls) ≡ Some at → (k : ℕ) × ((i + 1) + k ≡ at) × Links x ls k) → (k : ℕ) × (i + k ≡ at) × Links x (l ∷ ls) k
    pick true here e h = (0, (let same : i ≡ at = cc in omega arith), record { within = omega arith; named = λ d. rw here refl })
    pick false apart e h = let later = h e in (suc later.0, omega (arith, later.1), record { within = omega (arith, later.2.within); named = λ d. rw apart (later.2.named d) })

pub links_at : (x : List ℕ) (ls : List Link) (table : Table) (at : Option ℕ) → Indexes (map (λ l. l.c) ls) table → at ≡ place table x → MatchOption at (linked_to x ls ≡ None) (Links x ls)
links_at x ls table None is e = link_none x ls 0 (sym (is.first x) ∙ sym e)
links_at x ls table (Some at) is e =
    let found = link_some x ls 0 at (sym (is.first x) ∙ sym e) in
    let same : found.0 ≡ at = omega (arith, found.1) in
    subst (Links x ls) same found.2

-- ---- calls

built_alone : (o : Option BuiltIn) (b : BuiltIn) → o ≡ Some b → option_map built_in_of o ≡ Some (built_in_of b)
built_alone o b e = ap (option_map built_in_of) e

pub calls_built : (w : Whole) (x : List ℕ) (o : Option BuiltIn) (b : BuiltIn) → option_map built_in_of o ≡ built_in x → o ≡ Some b → Calls w x (callee.BuiltIn b)
calls_built w x o b is e = λ asked. rw (← is, e) refl

pub none_built : (x : List ℕ) (o : Option BuiltIn) → option_map built_in_of o ≡ built_in x → o ≡ None → built_in x ≡ None
none_built x o is e = sym is ∙ ap (option_map built_in_of) e

pub calls_missing : (w : Whole) (x : List ℕ) → built_in x ≡ None → find x (map function_of w.program.funs) ≡ None → Calls w x callee.Missing
calls_missing w x none e = (λ asked. rw (none, e) refl, e)

module _ (w : Whole) (x : List ℕ) (i : ℕ) (f : CFun) (none : built_in x ≡ None) (stands : slice_get w.program.funs i ≡ Some f) (found : find x (map function_of w.program.funs) ≡ Some (function_of f)) where
  pub calls_own : is_some f.body ≡ true → Calls w x (callee.Own i)
  calls_own e = (λ asked. rw (none, found) (pick (linked_to x w.links) f.body e), is_at w i (λ f. find x (map function_of w.program.funs) ≡ Some (function_of f)) f stands found)
    where
      pick : (l : Option (List ℕ)) (b : Option CBody) → is_some b ≡ true → without_body (function_of f) l (option_map body_of b) ≡ own
      pick None None e = refl
      pick (Some l) None e = absurd (true≢false (sym e))
      pick l (Some b) e = refl

  pub calls_unlinked : linked_to x w.links ≡ None → Calls w x (callee.Own i)
  calls_unlinked e = (λ asked. rw (none, found, e) (pick f.body), is_at w i (λ f. find x (map function_of w.program.funs) ≡ Some (function_of f)) f stands found)
    where
      pick : (b : Option CBody) → without_body (function_of f) None (option_map body_of b) ≡ own
      pick None = refl
      pick (Some b) = refl

  pub calls_linked : (name : Bor (List ℕ)) → is_some f.body ≡ false → linked_to x w.links ≡ Some name.now → Calls w x (callee.Linked i name)
  calls_linked name e h =
      is_at w i (λ f. (asked : _) → runs.callee (linked w asked) x ≡ abstract' (function_of f) name.now) f stands (λ asked. rw (none, found, h) (pick f.body e))
    where
      pick : (b : Option CBody) → is_some b ≡ false → without_body (function_of f) (Some name.now) (option_map body_of b) ≡ abstract' (function_of f) name.now
      pick None e = refl
      pick (Some b) e = absurd (true≢false e)

-- ---- what is looked up

pub no_link : (x : List ℕ) (ls : List Link) (table : Table) (at : Option ℕ) → Indexes (map (λ l. l.c) ls) table → at ≡ place table x → at ≡ None → linked_to x ls ≡ None
no_link x ls table at is e none = subst (λ at. MatchOption at (linked_to x ls ≡ None) (Links x ls)) none (links_at x ls table at is e)

pub some_link : (x : List ℕ) (ls : List Link) (table : Table) (at : Option ℕ) (i : ℕ) → Indexes (map (λ l. l.c) ls) table → at ≡ place table x → at ≡ Some i → Links x ls i
some_link x ls table at i is e some = subst (λ at. MatchOption at (linked_to x ls ≡ None) (Links x ls)) some (links_at x ls table at is e)

gone : (ls : List Link) (i : ℕ) → i < length ls → slice_get ls i ≡ None → ⊥
gone [] i less e = absurd (omega (arith, less))
gone (l ∷ ls) zero less e = absurd (cc)
gone (l ∷ ls) (suc i) less e = gone ls i (omega (arith, less)) e

pub link_there : (x : List ℕ) (ls : List Link) (i : ℕ) → Links x ls i → slice_get ls i ≡ None → ⊥
link_there x ls i h e = gone ls i h.within e

pub link_name : (x : List ℕ) (ls : List Link) (i : ℕ) (l : Link) → Links x ls i → slice_get ls i ≡ Some l → linked_to x ls ≡ Some l.name
link_name x ls i l h e = h.named l ∙ ap (λ l. Some l.name) (get_or_from_slice_get ls i l l e)

pub function_within : (w : Whole) (i : ℕ) (P : CFun → Type 0) → IsAt w i P → i < length w.program.funs
function_within w i P h = pick w.program.funs i (λ e. rw e at h)
  where
    pick : (fs : List CFun) (i : ℕ) → (slice_get fs i ≡ None → ⊥) → i < length fs
    pick [] i missing = absurd (missing refl)
    pick (f ∷ fs) zero missing = omega arith
    pick (f ∷ fs) (suc i) missing = let rest : i < length fs = pick fs i missing in omega (arith, rest)
