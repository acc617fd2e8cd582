-- Frames of lowered functions: which variables stand as they stood, and what a place keeps.
use Rattle.std.proofs.Common.{◌≡◌, ℕ, suc, ◌+◌, ◌^◌, ◌<◌, ◌≤◌, Bool, true, false, Some, List, [], ◌∷◌, ◌++◌, length, replicate, map, refl, sym, ap, ◌∙◌, subst, arith, bytes_eq, take_all}
use Rattle.cg_base.specs.declared.kind.Word.{Word}
use Rattle.cg_base.specs.Words.{bits}
use Rattle.cg_cmachine_def.specs.Layouts.{Layout, cell, size, Spot, spot, walk}
use Rattle.cg_cmachine_def.specs.Operands.{Variable, Frame, look, part_of}
use Rattle.cg_cmachine_def.specs.Targets.{with_scalars}
use Rattle.cg_ctree.specs.declared.tree.CTy.{CTy}
use Rattle.cg_heap.specs.declared.cell.Scalar.{Scalar}
use Rattle.cg_heap.specs.declared.cell.Scalar.TheVariants.{Unset, Word as NumberScalar}
use Rattle.cg_cgen_def.specs.Places.{Step, at, step_name, Base, argument, local, argument_name, local_name, base_name, Place, number, held}
use Rattle.cg_lower_laws.proofs.Names.{apart}
use Rattle.cg_cgen.proofs.Paths.{look_apart as look_other}

-- ---- variables

-- the first variable of a name has this layout and these scalars
pub record Is (fr : Frame) (x : List ℕ) (l : Layout) (us : List Scalar) : Type 0 where
  pub variable : Variable
  pub found : look x fr ≡ Some variable
  pub laid : variable.layout ≡ l
  pub holds : variable.scalars ≡ us
  pub sized : length us ≡ size l

-- a name is none of the locals from number k to below number n
abbrev pub Outside : ℕ → ℕ → List ℕ → Type 0
Outside k n x = (j : ℕ) → k ≤ j → j < n → bytes_eq x (local_name j) ≡ false

-- all variables but the locals from number k to below number n stand as they stood
pub record Changes (k n : ℕ) (fr fr' : Frame) : Type 0 where
  pub same : (x : List ℕ) → Outside k n x → look x fr' ≡ look x fr

-- the locals from number k on have these types, and are unset
abbrev pub Fresh : (CTy → Layout) → Frame → ℕ → List CTy → Type 0
Fresh lay fr k [] = Unit {0}
Fresh lay fr k (t ∷ ts) = Is fr (local_name k) (lay t) (replicate (size (lay t)) Unset) × Fresh lay fr (suc k) ts

-- ---- places

-- the part of a variable that members lead to
pub record IsPart (fr : Frame) (x : List ℕ) (names : List (List ℕ)) (l : Layout) (us : List Scalar) : Type 0 where
  pub variable : Variable
  pub found : look x fr ≡ Some variable
  pub sized : length variable.scalars ≡ size variable.layout
  pub spot : Spot
  pub leads : walk names variable.layout ≡ Some spot
  pub laid : spot.layout ≡ l
  pub part : part_of spot variable.scalars ≡ us
  pub full : length us ≡ size l

-- a number of a word type
pub record IsNumeral (n : ℕ) (l : Layout) (us : List Scalar) : Type 0 where
  pub word : Word
  pub laid : l ≡ cell word
  pub is : us ≡ NumberScalar n ∷ []
  pub small : n < 2 ^ bits word

-- a place keeps these scalars, of a layout
abbrev pub Keeps : Frame → Place → Layout → List Scalar → Type 0
Keeps fr (number n) l us = IsNumeral n l us
Keeps fr (held b steps) l us = IsPart fr (base_name b) (map step_name steps) l us

-- no local from number k on
abbrev pub Under : ℕ → Place → Type 0
Under k (number n) = Unit {0}
Under k (held argument steps) = Unit {0}
Under k (held (local j) steps) = j < k

-- a part of a place is a part of the same variable
pub under_at : (k : ℕ) (s : Step) (v : Place) → Under k v → Under k (at s v)
under_at k s (number n) u = tt
under_at k s (held argument steps) u = tt
under_at k s (held (local j) steps) u = u

-- ---- tests

-- a test, with what it says
split : {X : Type 0} (b : Bool) → (b ≡ true → X) → (b ≡ false → X) → X
split true f g = f refl
split false f g = g refl

-- ---- a variable that is set

-- a variable with other scalars
abbrev holding : Variable → List Scalar → Variable
holding v us = record { name = v.name; layout = v.layout; scalars = us }

-- the variable itself has the scalars
look_same : (x : List ℕ) (us : List Scalar) (fr : Frame) (v : Variable) → look x fr ≡ Some v → look x (with_scalars x us fr) ≡ Some (holding v us)
look_same x us [] v h = absurd (cc)
look_same x us (w ∷ vs) v h =
    split (bytes_eq x w.name)
    (λ e. let q : Some w ≡ Some v = rw e at h in
    let r : w ≡ v = cc in
    rw (e, e) (ap (λ z. Some (holding z us)) r))
    (λ e. let q : look x vs ≡ Some v = rw e at h in rw (e, e) (look_same x us vs v q))

-- ---- what is owed

-- a variable's scalars are set
pub set_is : (fr : Frame) (x : List ℕ) (l : Layout) (old us : List Scalar) → Is fr x l old → length us ≡ size l → Is (with_scalars x us fr) x l us
set_is fr x l old us i e =
    record { variable = holding i.variable us; found = look_same x us fr i.variable i.found; laid = i.laid; holds = refl; sized = e }

pub changes_none : (k n : ℕ) (fr : Frame) → Changes k n fr fr
changes_none k n fr = record { same = λ x o. refl }

pub changes_wider : (k n i j : ℕ) (fr fr' : Frame) → k ≤ i → j ≤ n → Changes i j fr fr' → Changes k n fr fr'
changes_wider k n i j fr fr' h h' c = record { same = λ x o. c.same x (λ m a b. o m (omega arith) (omega arith)) }

pub changes_on : (k n : ℕ) (a b c : Frame) → Changes k n a b → Changes k n b c → Changes k n a c
changes_on k n a b c f g = record { same = λ x o. g.same x o ∙ f.same x o }

pub changes_set : (k n j : ℕ) (fr : Frame) (us : List Scalar) → k ≤ j → j < n → Changes k n fr (with_scalars (local_name j) us fr)
changes_set k n j fr us h h' = record { same = λ x o. look_other (local_name j) x us fr (o j h h') }

-- a local below k or from n on, and the argument
pub outside_below : (k n j : ℕ) → j < k → n ≤ 2 ^ 64 → Outside k n (local_name j)
outside_below k n j h b = λ i a c. apart 120 j i (omega arith) (omega arith) (λ e. omega arith)

pub outside_behind : (k n j : ℕ) → n ≤ j → j < 2 ^ 64 → Outside k n (local_name j)
outside_behind k n j h b = λ i a c. apart 120 j i b (omega arith) (λ e. omega arith)

pub outside_argument : (k n : ℕ) → Outside k n argument_name
outside_argument k n = λ j a b. refl

pub is_later : (k n : ℕ) (fr fr' : Frame) (x : List ℕ) (l : Layout) (us : List Scalar) → Changes k n fr fr' → Outside k n x → Is fr x l us → Is fr' x l us
is_later k n fr fr' x l us c o i = record { variable = i.variable; found = c.same x o ∙ i.found; laid = i.laid; holds = i.holds; sized = i.sized }

pub fresh_front : (lay : CTy → Layout) (fr : Frame) (k : ℕ) (ts us : List CTy) → Fresh lay fr k (ts ++ us) → Fresh lay fr k ts
fresh_front lay fr k [] us f = tt
fresh_front lay fr k (t ∷ ts) us f = (f.0, fresh_front lay fr (suc k) ts us f.1)

pub fresh_back : (lay : CTy → Layout) (fr : Frame) (k i : ℕ) (ts us : List CTy) → i ≡ k + length ts → Fresh lay fr k (ts ++ us) → Fresh lay fr i us
fresh_back lay fr k i [] us e f = let q : k ≡ i = omega arith in subst (λ m. Fresh lay fr m us) q f
fresh_back lay fr k i (t ∷ ts) us e f = fresh_back lay fr (suc k) i ts us (omega arith) f.1

pub fresh_later : (lay : CTy → Layout) (k n i : ℕ) (fr fr' : Frame) (ts : List CTy) → Changes k n fr fr' → n ≤ i → i + length ts ≤ 2 ^ 64 → Fresh lay fr i ts → Fresh lay fr' i ts
fresh_later lay k n i fr fr' [] c h b f = tt
fresh_later lay k n i fr fr' (t ∷ ts) c h b f =
    (is_later k n fr fr' (local_name i) (lay t) (replicate (size (lay t)) Unset) c (outside_behind k n i h (omega arith)) f.0, fresh_later lay k n (suc i) fr fr' ts c (omega arith) (omega arith) f.1)

pub under_more : (k n : ℕ) (v : Place) → k ≤ n → Under k v → Under n v
under_more k n (number m) h u = tt
under_more k n (held argument steps) h u = tt
under_more k n (held (local j) steps) h u = omega arith

-- a part of a variable that stands as it stood
part_later : (k n : ℕ) (fr fr' : Frame) (x : List ℕ) (names : List (List ℕ)) (l : Layout) (us : List Scalar) → Changes k n fr fr' → Outside k n x → IsPart fr x names l us → IsPart fr' x names l us
part_later k n fr fr' x names l us c o i =
    record {
      variable = i.variable;
      found = c.same x o ∙ i.found;
      sized = i.sized;
      spot = i.spot;
      leads = i.leads;
      laid = i.laid;
      part = i.part;
      full = i.full;
    }

pub keeps_later : (k n : ℕ) (fr fr' : Frame) (v : Place) (l : Layout) (us : List Scalar) → Changes k n fr fr' → n ≤ 2 ^ 64 → Under k v → Keeps fr v l us → Keeps fr' v l us
keeps_later k n fr fr' (number m) l us c b u h = h
keeps_later k n fr fr' (held argument steps) l us c b u h =
    part_later k n fr fr' argument_name (map step_name steps) l us c (outside_argument k n) h
keeps_later k n fr fr' (held (local j) steps) l us c b u h =
    part_later k n fr fr' (local_name j) (map step_name steps) l us c (outside_below k n j u b) h

-- all of a variable's scalars
pub whole : (l : Layout) (us : List Scalar) → length us ≡ size l → part_of (spot 0 l) us ≡ us
whole l us e = take_all (size l) us (omega (arith, e))

-- a variable as a place
pub is_kept : (fr : Frame) (b : Base) (l : Layout) (us : List Scalar) → Is fr (base_name b) l us → Keeps fr (held b []) l us
is_kept fr b l us i =
    record {
      variable = i.variable;
      found = i.found;
      sized = ap length i.holds ∙ i.sized ∙ ap size (sym i.laid);
      spot = spot 0 i.variable.layout;
      leads = refl;
      laid = i.laid;
      part = whole i.variable.layout i.variable.scalars (ap length i.holds ∙ i.sized ∙ ap size (sym i.laid)) ∙ i.holds;
      full = i.sized;
    }

pub kept_is : (fr : Frame) (b : Base) (l : Layout) (us : List Scalar) → Keeps fr (held b []) l us → Is fr (base_name b) l us
kept_is fr b l us k =
    let at_start : spot 0 k.variable.layout ≡ k.spot = cc in
    record {
      variable = k.variable;
      found = k.found;
      laid = ap (λ z. z.layout) at_start ∙ k.laid;
      holds = sym (whole k.variable.layout k.variable.scalars k.sized) ∙ ap (λ z. part_of z k.variable.scalars) at_start ∙ k.part;
      sized = k.full;
    }
