-- The locals of a function all at once, and statements by what they set.
use Rattle.std.proofs.Common.{◌≡◌, ℕ, zero, suc, ◌+◌, ◌^◌, ◌<◌, ◌≤◌, Some, List, [], ◌∷◌, ◌++◌, length, map, slice_get, refl, sym, ap, ◌∙◌, subst, arith}
use Rattle.std.proofs.lemmas.Bool.{lt-ltb}
use Rattle.cg_base.specs.declared.kind.Word.{Word}
use Rattle.cg_base.specs.Words.{bits}
use Rattle.cg_base.specs.Types.{Tau}
use Rattle.cg_cgen_def.specs.Code.{computed_by, inner}
use Rattle.cg_cmachine_def.specs.Layouts.{Layout, cell, size, spot, walk}
use Rattle.cg_cmachine_def.specs.Operands.{Frame, word_in}
use Rattle.cg_cmachine_def.specs.Operations.{computed, word_value}
use Rattle.cg_cmachine_def.specs.Outcomes.{State, ok}
use Rattle.cg_cmachine_def.specs.Outcomes as runs
use Rattle.cg_cmachine_def.specs.Runs.{Linked, choose, judged_word, plain}
use Rattle.cg_cmachine_def.specs.Targets.{spliced, with_scalars}
use Rattle.cg_ctree.specs.declared.tree.COp.{COp}
use Rattle.cg_ctree.specs.declared.tree.CRhs.TheVariants.{Binary}
use Rattle.cg_ctree.specs.declared.tree.CStruct.{CStruct}
use Rattle.cg_ctree.specs.declared.tree.COpnd.{COpnd}
use Rattle.cg_ctree.specs.Trees.{Stmt, branch, to_block}
use Rattle.cg_heap.specs.declared.cell.Scalar.{Scalar}
use Rattle.cg_heap.specs.declared.cell.Scalar.TheVariants.{Word as NumberScalar}
use Rattle.cg_heap.specs.Stored.{Stored}
use Rattle.cg_cgen_def.specs.Bodies.{setting}
use Rattle.cg_cgen_def.specs.Places.{Place, Step, argument_name, held, local, local_name, number, operand, path, step_name}
use Rattle.cg_lower_laws.proofs.Frames.{Changes, Is, Keeps, changes_set, is_kept, is_later, outside_argument, outside_behind, outside_below, set_is}
use Rattle.cg_lower_laws.proofs.LibraryAsks.{runs_setting}
use Rattle.cg_lower_laws.proofs.LibraryParts.{held_read}
use Rattle.cg_lower_laws.proofs.Operands.{IsReadable, given_typed, write_whole}
use Rattle.cg_lower_laws.proofs.Runs.{Runs, runs_branch, runs_none, runs_on, runs_plain}

-- ---- locals

-- what a local holds
pub record Local : Type 0 where
  pub layout : Layout
  pub scalars : List Scalar

-- the locals from number k on
abbrev pub Stand : Frame → ℕ → List Local → Type 0
Stand fr k [] = Unit {0}
Stand fr k (x ∷ xs) = Is fr (local_name k) x.layout x.scalars × Stand fr (suc k) xs

-- with other scalars in one of them
abbrev pub replaced : ℕ → List Scalar → List Local → List Local
replaced j us [] = []
replaced zero us (x ∷ xs) = record { layout = x.layout; scalars = us } ∷ xs
replaced (suc j) us (x ∷ xs) = x ∷ replaced j us xs

-- those behind another stand as they stood
behind_stand : (fr fr' : Frame) (j k : ℕ) (xs : List Local) → Changes j (suc j) fr fr' → suc j ≤ k → k + length xs ≤ 2 ^ 64 → Stand fr k xs → Stand fr' k xs
behind_stand fr fr' j k [] c h b f = tt
behind_stand fr fr' j k (x ∷ xs) c h b f =
    (is_later j (suc j) fr fr' (local_name k) x.layout x.scalars c (outside_behind j (suc j) k h (omega (arith, b))) f.0, behind_stand fr fr' j (suc k) xs c (omega (arith, h)) (omega (arith, b)) f.1)

-- one is set
stand_set : (fr : Frame) (k j n : ℕ) (xs : List Local) (x : Local) (us : List Scalar) → n ≡ k + j → slice_get xs j ≡ Some x → length us ≡ size x.layout → k + length xs ≤ 2 ^ 64 → Stand fr k xs
    → Stand (with_scalars (local_name n) us fr) k (replaced j us xs)
stand_set fr k j n [] x us at e h b f = absurd (cc)
stand_set fr k zero n (y ∷ xs) x us at e h b f =
    let same : y ≡ x = cc in
    let here : k ≡ n = omega (arith, at) in
    subst (λ m. Stand (with_scalars (local_name m) us fr) k (replaced zero us (y ∷ xs))) here
    (set_is fr (local_name k) y.layout y.scalars us f.0 (h ∙ ap (λ z. size z.layout) (sym same)), behind_stand fr (with_scalars (local_name k) us fr) k (suc k) xs (changes_set k (suc k) k fr us (omega arith) (omega arith)) (omega arith) (omega (arith, b)) f.1)
stand_set fr k (suc j) n (y ∷ xs) x us at e h b f = (
  is_later n (suc n) fr (with_scalars (local_name n) us fr) (local_name k) y.layout y.scalars (changes_set n (suc n) n fr us (omega arith) (omega arith))
      (outside_below n (suc n) k (omega (arith, at)) (let lt = within xs j x e in omega (arith, at, b, lt))) f.0,
  stand_set fr (suc k) j n xs x us (omega (arith, at)) e h (omega (arith, b)) f.1,
)
  where
    within : (xs : List Local) (j : ℕ) (x : Local) → slice_get xs j ≡ Some x → j < length xs
    within [] j x e = absurd (cc)
    within (y ∷ xs) zero x e = omega arith
    within (y ∷ xs) (suc j) x e = let lt = within xs j x e in omega (arith, lt)

-- one of them
pub stand_at : (fr : Frame) (k j n : ℕ) (xs : List Local) (x : Local) → n ≡ k + j → slice_get xs j ≡ Some x → Stand fr k xs → Is fr (local_name n) x.layout x.scalars
stand_at fr k j n [] x at e f = absurd (cc)
stand_at fr k zero n (y ∷ xs) x at e f =
    let same : y ≡ x = cc in
    let here : k ≡ n = omega (arith, at) in
    subst (λ m. Is fr (local_name m) x.layout x.scalars) here (subst (λ z. Is fr (local_name k) z.layout z.scalars) same f.0)
stand_at fr k (suc j) n (y ∷ xs) x at e f = stand_at fr (suc k) j n xs x (omega (arith, at)) e f.1

-- the argument and all locals
pub record Scene (argument : Local) (fr : Frame) (xs : List Local) : Type 0 where
  pub argued : Is fr argument_name argument.layout argument.scalars
  pub locals : Stand fr 0 xs

-- one local is set
pub scene_set : (a : Local) (fr : Frame) (j : ℕ) (xs : List Local) (x : Local) (us : List Scalar) → slice_get xs j ≡ Some x → length us ≡ size x.layout → length xs ≤ 2 ^ 64 → Scene a fr xs
    → Scene a (with_scalars (local_name j) us fr) (replaced j us xs)
scene_set a fr j xs x us e h b f = record {
  argued = is_later j (suc j) fr (with_scalars (local_name j) us fr) argument_name a.layout a.scalars (changes_set j (suc j) j fr us (omega arith) (omega arith)) (outside_argument j (suc j)) f.argued;
  locals = stand_set fr 0 j j xs x us (omega arith) e h (omega (arith, b)) f.locals;
}

-- a whole local
pub scene_whole : (a : Local) (fr : Frame) (j : ℕ) (xs : List Local) (x : Local) → slice_get xs j ≡ Some x → Scene a fr xs → Keeps fr (held (local j) []) x.layout x.scalars
scene_whole a fr j xs x e f = is_kept fr (local j) x.layout x.scalars (stand_at fr 0 j j xs x (omega arith) e f.locals)

-- ---- words

-- a place keeps a number of a word
pub record KeepsNumber (fr : Frame) (w : Word) (v : Place) (n : ℕ) : Type 0 where
  pub keeps : Keeps fr v (cell w) (NumberScalar n ∷ [])
  pub small : n < 2 ^ bits w

-- which is read
pub number_judged : (ss : List CStruct) (m : Stored) (fr : Frame) (w : Word) (v : Place) (n : ℕ) → KeepsNumber fr w v n → judged_word ss m fr (operand v) ≡ ok n
number_judged ss m fr w (number i) n k =
    let same : NumberScalar n ∷ [] ≡ NumberScalar i ∷ [] = k.keeps.is in
    let it : i ≡ n = cc in ap ok it
number_judged ss m fr w (held b steps) n k =
    ap (λ z. runs.on z word_in) (held_read ss m fr b steps (cell w) (NumberScalar n ∷ []) k.keeps (n, refl, k.small))
    ∙ (let small = k.small in rw (lt-ltb n (2 ^ bits w) small) refl)

-- a number that is read and computed with
binary_is : (ss : List CStruct) (m : Stored) (fr : Frame) (o : COp) (outer w : Word) (left right : Place) (x y c : ℕ) → KeepsNumber fr w left x → KeepsNumber fr w right y
    → computed outer (inner w) o x y ≡ ok (word_value outer c) → plain ss m fr (Binary outer (inner w) o (operand left) (operand right)) ≡ ok (word_value outer c)
binary_is ss m fr o outer w left right x y c kx ky e = rw (number_judged ss m fr w left x kx, number_judged ss m fr w right y ky) e

-- ---- statements by what they set

module _ (q : Linked) (numbered : Tau → ℕ) (l : Layout) (a : Local) where
  -- statements from a frame to one with these locals
  pub record Reaches (code : List Stmt) (fr : Frame) (s : State) (steps : ℕ) (xs : List Local) (s' : State) : Type 0 where
    pub frame : Frame
    pub runs : Runs q l code fr s steps frame s'
    pub scene : Scene a frame xs

  -- one behind the other
  pub reaches_on : (x y : List Stmt) (fr : Frame) (s t u : State) (i j : ℕ) (xs ys : List Local) → (r : Reaches x fr s i xs t) → ((fr' : Frame) → Scene a fr' xs → Reaches y fr' t j ys u) → Reaches (x ++ y) fr s (i + j) ys u
  reaches_on x y fr s t u i j xs ys r f =
      let z = f r.frame r.scene in
      record { frame = z.frame; runs = runs_on q l x y fr r.frame z.frame s t u i j r.runs z.runs; scene = z.scene }

  -- nothing
  pub reaches_none : (fr : Frame) (s : State) (xs : List Local) → Scene a fr xs → Reaches [] fr s 0 xs s
  reaches_none fr s xs f = record { frame = fr; runs = runs_none q l fr s; scene = f }

  -- a branch, by what is chosen
  pub reaches_branch : (o : COpnd) (first second : List Stmt) (fr : Frame) (s t : State) (k n : ℕ) (xs : List Local) → judged_word q.program.structs s.store fr o ≡ ok k → Reaches (choose k first second) fr s n xs t
      → Reaches (branch o (to_block first) (to_block second) ∷ []) fr s (suc n) xs t
  reaches_branch o first second fr s t k n xs e z = record { frame = z.frame; runs = runs_branch q l o first second fr z.frame s t k n e z.runs; scene = z.scene }

  -- a part of a local is set
  pub sets : (fr : Frame) (s : State) (j : ℕ) (xs : List Local) (x : Local) (steps : List Step) (v : Place) (part' : Layout) (i : ℕ) (us after : List Scalar) → Scene a fr xs
      → slice_get xs j ≡ Some x → walk (map step_name steps) x.layout ≡ Some (spot i part') → Keeps fr v part' us → IsReadable part' us → spliced (spot i part') us x.scalars ≡ after
      → length after ≡ size x.layout → length xs ≤ 2 ^ 64 → Reaches (setting j steps v ∷ []) fr s 1 (replaced j after xs) s
  sets fr s j xs x steps v part' i us after f e leads k readable becomes sized few = record {
    frame = with_scalars (local_name j) after fr;
    runs = runs_setting q numbered l fr s j steps v x.layout part' x.scalars us after i (stand_at fr 0 j j xs x (omega arith) e f.locals) leads k readable becomes;
    scene = scene_set a fr j xs x after e sized few f;
  }

  -- a local of a word is computed
  pub computes : (fr : Frame) (s : State) (j : ℕ) (xs : List Local) (x : Local) (o : COp) (outer w : Word) (left right : Place) (n m c : ℕ) → Scene a fr xs → slice_get xs j ≡ Some x
      → x.layout ≡ cell outer → KeepsNumber fr w left n → KeepsNumber fr w right m → computed outer (inner w) o n m ≡ ok (word_value outer c) → length xs ≤ 2 ^ 64
      → Reaches (computed_by o outer w (path (local j) []) (operand left) (operand right) ∷ []) fr s 1 (replaced j (NumberScalar c ∷ []) xs) s
  unfolding size
  computes fr s j xs x o outer w left right n m c f e laid kn km becomes few = record {
    frame = with_scalars (local_name j) (NumberScalar c ∷ []) fr;
    runs =
        runs_plain q l (path (local j) []) (Binary outer (inner w) o (operand left) (operand right)) fr s (word_value outer c)
        (record { frame = with_scalars (local_name j) (NumberScalar c ∷ []) fr; store = s.store }) refl
        (binary_is q.program.structs s.store fr o outer w left right n m c kn km becomes)
        (write_whole numbered q.program.structs s.store fr (local j) (cell outer) x.scalars (NumberScalar c ∷ []) (word_value outer c)
        (subst (λ z. Is fr (local_name j) z x.scalars) laid (stand_at fr 0 j j xs x (omega arith) e f.locals)) (given_typed (cell outer) (NumberScalar c ∷ [])));
    scene = scene_set a fr j xs x (NumberScalar c ∷ []) e (ap size (sym laid)) few f;
  }
