-- The C of each operator does what the operator does, by the definition of runs.
use Rattle.std.proofs.Common.{◌≡◌, ℕ, zero, suc, ◌+◌, ◌-◌, ◌*◌, ◌/◌, ◌%◌, ◌^◌, ◌<◌, ◌≤◌, Bool, true, false, cond, not, nat_eq, nat_lt, nat_le, if◌then◌else◌, Result, Ok, Err, IfOk, map, List, [], ◌∷◌, refl, sym, ap, ◌∙◌, subst, arith}
use Rattle.std.proofs.Math.Dec.{eqb-suc-zero}
use Rattle.std.proofs.Math.Nat.{div-le_self, mod-le}
use Rattle.std.proofs.lemmas.Bool.{lt-ltb, ltb-true}
use Rattle.std.proofs.lemmas.Nat.{or_lt, xor_lt}
use Rattle.std.specs.Int.Bits.{and_lt, bit_and, bit_or, bit_xor}
use Rattle.cg_base.specs.declared.kind.Word.{Word}
use Rattle.cg_base.specs.declared.kind.Word.TheVariants.{U8}
use Rattle.cg_base.specs.declared.memory.Memory.{Memory}
use Rattle.cg_base.specs.Words.{bits}
use Rattle.cg_base.proofs.WordLaws.{word_same}
use Rattle.cg_core.specs.declared.op.Op.{Op}
use Rattle.cg_core.specs.declared.op.Op.TheVariants as ops
use Rattle.cg_ctree.specs.declared.tree.COp.{COp}
use Rattle.cg_ctree.specs.declared.tree.COp.TheVariants as op
use Rattle.cg_ctree.specs.declared.tree.COpnd.{COpnd}
use Rattle.cg_ctree.specs.declared.tree.COpnd.TheVariants.{Number, Path}
use Rattle.cg_ctree.specs.declared.tree.CPath.{CPath}
use Rattle.cg_ctree.specs.declared.tree.CRhs.{CRhs}
use Rattle.cg_ctree.specs.declared.tree.CRhs.TheVariants.{Opnd, Binary, Flip}
use Rattle.cg_ctree.specs.declared.tree.CStmt.{CStmt}
use Rattle.cg_ctree.specs.declared.why.Why.TheVariants.{ByZero, ShiftTooFar, KindsDiffer}
use Rattle.cg_ctree.specs.Trees.{Stmt, Block, stop, also, assign, branch, to_block, stmt_of}
use Rattle.cg_heap.specs.declared.cell.Scalar.TheVariants.{Word as NumberScalar}
use Rattle.cg_heap.specs.Stored.{Stored}
use Rattle.cg_cmachine_def.specs.Layouts.{Layout, cell}
use Rattle.cg_cmachine_def.specs.Operands.{Value, literal, Frame, give}
use Rattle.cg_cmachine_def.specs.Operations.{flag, word_value, operation, computed, flipped, converted}
use Rattle.cg_cmachine_def.specs.Outcomes.{ok, no, on, State, done, lift}
use Rattle.cg_cmachine_def.specs.Runs.{Linked, Calls, goes, onward, choose, plain, judged_word, assigned, run_assign, run_stmt, run_block}
use Rattle.cg_eval_operations.specs.Operators.{truth, on_one, on_two}
use Rattle.cg_cgen_def.specs.Code.{inner, computed_by, only, divided_by, dividing, shifted_by, shifting, zero_set, op_code}
use Rattle.cg_cgen.specs.Meanings.{IsNumber, IsPart, IsApart, set, Changes, Computes, OperatorsCompute}
use Rattle.cg_cgen.proofs.Numbers.{kept, bits_kept, cast, whole, small, flag_is_small, width_fits, bit_fits, difference, complement_kept}
use Rattle.cg_cgen.proofs.Paths.{number_read, below, still_part, set_twice, still_number, set_read, set_written}

-- what comes of two is the same
same_ok : (a b : ℕ) → ok a ≡ ok b → a ≡ b
same_ok a b e = cc

-- ---- what is computed

computed_is : (o : COp) (outer w : Word) (a b k r : ℕ) → a < 2 ^ bits w → b < 2 ^ bits w → operation o (bits (inner w)) a b ≡ ok k → k % 2 ^ bits (inner w) % 2 ^ bits outer ≡ r
    → computed outer (inner w) o a b ≡ ok (word_value outer r)
computed_is o outer w a b k r h i e q =
    ap (λ z. on (operation o (bits (inner w)) z (b % 2 ^ bits (inner w))) (λ n. ok (converted outer (n % 2 ^ bits (inner w))))) (cast w a h)
    ∙ ap (λ z. on (operation o (bits (inner w)) a z) (λ n. ok (converted outer (n % 2 ^ bits (inner w))))) (cast w b i)
    ∙ ap (λ j. on j (λ n. ok (converted outer (n % 2 ^ bits (inner w))))) e
    ∙ ap (λ z. ok (word_value outer z)) q

word_given_back : (w : Word) (n : ℕ) → give (cell w) (word_value w n) ≡ ok (NumberScalar n ∷ [])
word_given_back w n = ap (λ b. cond b (ok (NumberScalar n ∷ [])) (no KindsDiffer)) (word_same w)

literal_given : (w : Word) (n : ℕ) → n < 2 ^ bits w → give (cell w) (literal n) ≡ ok (NumberScalar n ∷ [])
literal_given w n h = ap (λ b. cond b (ok (NumberScalar n ∷ [])) (no KindsDiffer)) (lt-ltb n (2 ^ bits w) h)

-- ---- statements

module _ (p : Linked) (calls : Calls) (n : ℕ) (l : Layout) where
  -- a right side that is no call
  abbrev IsPlain : CPath → CRhs → Type 0
  IsPlain to r = (fr : Frame) (s : State) (left : ℕ) → run_assign p calls to r fr s left ≡ lift s.store (plain p.program.structs s.store fr r) (λ v. assigned p s.store fr to v s left)

  -- a block takes so many steps to another frame
  abbrev Goes : Block → Frame → State → ℕ → Frame → Type 0
  Goes x fr s steps after = (rest b : ℕ) → b ≡ steps + rest → run_block p calls n l x fr s b ≡ done (goes after) s rest

  -- one assignment
  assigns : {fr : Frame} {w : Word} {to : CPath} (r : CRhs) (s : State) (part : IsPart fr w to) (v : Value) (k : ℕ) → IsPlain to r → plain p.program.structs s.store fr r ≡ ok v
      → give (cell w) v ≡ ok (NumberScalar k ∷ []) → (x : Block) (steps : ℕ) (after : Frame) → Goes x (set part k) s steps after → Goes (also (assign to r) x) fr s (suc steps) after
  unfolding run_block run_stmt
  assigns {fr} {w} {to} r s part v k h e g x steps after i rest b q =
      let c : b ≡ suc (steps + rest) = omega arith in
      ap (λ z. run_block p calls n l (also (assign to r) x) fr s z) c
      ∙ ap (λ o. onward o (run_block p calls n l x)) (h fr s (steps + rest) ∙ ap (λ j. lift s.store j (λ v. assigned p s.store fr to v s (steps + rest))) e ∙ ap (λ j. lift s.store j (λ w. done (goes w.frame) (record { store = w.store; made = s.made; freed = s.freed }) (steps + rest))) (set_written p.program.structs s.store part v k g))
      ∙ i rest (steps + rest) refl

  ends : (fr : Frame) (s : State) → Goes stop fr s 0 fr
  unfolding run_block
  ends fr s rest b q = let c : b ≡ rest = omega arith in ap (done (goes fr) s) c

  -- a choice, at the end
  chooses : (fr : Frame) (s : State) (o : COpnd) (x y : Block) (k steps : ℕ) (after : Frame) → judged_word p.program.structs s.store fr o ≡ ok k
      → ((rest : ℕ) → choose k (run_block p calls n l x fr s (steps + rest)) (run_block p calls n l y fr s (steps + rest)) ≡ done (goes after) s rest)
      → Goes (also (branch o x y) stop) fr s (suc steps) after
  unfolding run_block run_stmt
  chooses fr s o x y k steps after e h rest b q =
      let c : b ≡ suc (steps + rest) = omega arith in
      ap (λ z. run_block p calls n l (also (branch o x y) stop) fr s z) c
      ∙ ap (λ j. onward (lift s.store j (λ k. choose k (run_block p calls n l x fr s (steps + rest)) (run_block p calls n l y fr s (steps + rest)))) (run_block p calls n l stop)) e
      ∙ ap (λ o. onward o (run_block p calls n l stop)) (h rest)

  changes : (code : List Stmt) (fr : Frame) (s : State) (steps : ℕ) (after : Frame) → steps ≤ 6 → Goes (to_block code) fr s steps after → Changes p calls n l code fr s after
  changes code fr s steps after h g = record { steps = steps; within = h; runs = λ rest. g rest (steps + rest) refl }

  -- ---- shapes of code

  -- what stands on the right of one computation
  plain_binary : {fr : Frame} {w : Word} {x y : COpnd} {a b : ℕ} (o : COp) (outer : Word) (s : State) (k r : ℕ) → IsNumber p s.store fr w x a → IsNumber p s.store fr w y b
      → operation o (bits (inner w)) a b ≡ ok k → k % 2 ^ bits (inner w) % 2 ^ bits outer ≡ r → plain p.program.structs s.store fr (Binary outer (inner w) o x y) ≡ ok (word_value outer r)
  plain_binary {fr} {w} {x} {y} {a} {b} o outer s k r i j e q =
      ap (λ z. on z (λ a. on (judged_word p.program.structs s.store fr y) (λ b. computed outer (inner w) o a b))) (number_read i)
      ∙ ap (λ z. on z (λ b. computed outer (inner w) o a b)) (number_read j)
      ∙ computed_is o outer w a b k r (below i) (below j) e q

  -- one computation, and a block behind it
  computes : {fr : Frame} {w outer : Word} {to : CPath} {x y : COpnd} {a b : ℕ} (o : COp) (s : State) (part : IsPart fr outer to) (k r : ℕ) → IsNumber p s.store fr w x a → IsNumber p s.store fr w y b
      → operation o (bits (inner w)) a b ≡ ok k → k % 2 ^ bits (inner w) % 2 ^ bits outer ≡ r
      → (z : Block) (steps : ℕ) (after : Frame) → Goes z (set part r) s steps after → Goes (also (computed_by o outer w to x y) z) fr s (suc steps) after
  computes {fr} {w} {outer} {to} {x} {y} o s part k r i j e q =
      assigns (Binary outer (inner w) o x y) s part (word_value outer r) r (λ fr s left. refl) (plain_binary o outer s k r i j e q) (word_given_back outer r)

  -- one computation alone
  one : {fr : Frame} {w outer : Word} {to : CPath} {x y : COpnd} {a b : ℕ} (o : COp) (s : State) (part : IsPart fr outer to) (k r : ℕ) → IsNumber p s.store fr w x a → IsNumber p s.store fr w y b
      → operation o (bits (inner w)) a b ≡ ok k → k % 2 ^ bits (inner w) % 2 ^ bits outer ≡ r
      → Goes (only (computed_by o outer w to x y)) fr s 1 (set part r)
  one {fr} o s part k r i j e q = computes o s part k r i j e q stop 0 (set part r) (ends (set part r) s)

  simple : {fr : Frame} {w outer : Word} {to : CPath} {x y : COpnd} {a b : ℕ} (o : COp) (s : State) (part : IsPart fr outer to) (k r : ℕ) → IsNumber p s.store fr w x a → IsNumber p s.store fr w y b
      → operation o (bits (inner w)) a b ≡ ok k → k % 2 ^ bits (inner w) % 2 ^ bits outer ≡ r
      → Changes p calls n l (computed_by o outer w to x y ∷ []) fr s (set part r)
  unfolding to_block
  simple {fr} {w} {outer} {to} {x} {y} o s part k r i j e q = changes (computed_by o outer w to x y ∷ []) fr s 1 (set part r) (omega arith) (one o s part k r i j e q)

  -- a division
  zero_set_in : {fr : Frame} {w : Word} {to : CPath} (s : State) (part : IsPart fr w to) → Goes (only (assign to (Opnd (Number 0)))) fr s 1 (set part 0)
  zero_set_in {fr} {w} s part =
      assigns (Opnd (Number 0)) s part (literal 0) 0 (λ fr s left. refl) refl (literal_given w 0 (bit_fits w 0 (omega arith))) stop 0 (set part 0) (ends (set part 0) s)

  divides : {fr : Frame} {w : Word} {to : CPath} {x y : COpnd} (o : COp) (s : State) (part : IsPart fr w to) (a b r : ℕ) → IsNumber p s.store fr w x a → IsNumber p s.store fr w y b
      → (b ≡ 0 → r ≡ 0) → ((c : ℕ) → b ≡ suc c → (operation o (bits (inner w)) a b ≡ ok r) × (r ≤ a)) → Changes p calls n l (divided_by o w to x y) fr s (set part r)
  unfolding to_block
  divides {fr} {w} {to} {x} {y} o s part a b r i j by_none by_some =
      changes (divided_by o w to x y) fr s 2 (set part r) (omega arith) (chooses fr s y _ _ b 1 (set part r) (number_read j) (λ rest. chosen b refl rest))
    where
      chosen : (c : ℕ) → b ≡ c → (rest : ℕ) → choose c (run_block p calls n l (only (computed_by o w w to x y)) fr s (1 + rest)) (run_block p calls n l (only (assign to (Opnd (Number 0)))) fr s (1 + rest)) ≡ done (goes (set part r)) s rest
      chosen zero e rest = subst (λ z. run_block p calls n l (only (assign to (Opnd (Number 0)))) fr s (1 + rest) ≡ done (goes (set part z)) s rest) (sym (by_none e)) (zero_set_in s part rest (1 + rest) refl)
      chosen (suc c) e rest =
          let is : (operation o (bits (inner w)) a b ≡ ok r) × (r ≤ a) = by_some c e in
          let le : r ≤ a = is.1 in
          let lt : a < 2 ^ bits w = below i in
          one o s part r r i j is.0 (whole w r (omega arith)) rest (1 + rest) refl

  -- to 0, in a step
  cleared : {fr : Frame} {w : Word} {to : CPath} (s : State) (part : IsPart fr w to) (r : ℕ) → r ≡ 0 → Changes p calls n l (zero_set to) fr s (set part r)
  unfolding to_block
  cleared {fr} {w} {to} s part r e =
      subst (λ z. Changes p calls n l (zero_set to) fr s (set part z)) (sym e) (changes (zero_set to) fr s 1 (set part 0) (omega arith) (zero_set_in s part))

  -- what is read of a literal is it
  literal_is : {fr : Frame} {w : Word} {k b : ℕ} (s : State) → IsNumber p s.store fr w (Number k) b → k ≡ b
  literal_is {fr} {w} {k} {b} s j = same_ok k b (number_read j)

  -- a division by any operand
  divides_by : {fr : Frame} {w : Word} {to : CPath} {x : COpnd} (y : COpnd) (o : COp) (s : State) (part : IsPart fr w to) (a b r : ℕ) → IsNumber p s.store fr w x a → IsNumber p s.store fr w y b
      → (b ≡ 0 → r ≡ 0) → ((c : ℕ) → b ≡ suc c → (operation o (bits (inner w)) a b ≡ ok r) × (r ≤ a)) → Changes p calls n l (dividing o w to x y) fr s (set part r)
  divides_by (Path divisor) o s part a b r i j by_none by_some = divides o s part a b r i j by_none by_some
  divides_by {fr} {w} {to} {x} (Number k) o s part a b r i j by_none by_some = by_number k (literal_is s j)
    where
      by_number : (c : ℕ) → c ≡ b → Changes p calls n l (if nat_eq c 0 then zero_set to else (computed_by o w w to x (Number k) ∷ [])) fr s (set part r)
      by_number zero e = cleared s part r (by_none (sym e))
      by_number (suc c) e =
          let is : (operation o (bits (inner w)) a b ≡ ok r) × (r ≤ a) = by_some c (sym e) in
          let le : r ≤ a = is.1 in
          let lt : a < 2 ^ bits w = below i in
          subst (λ t. Changes p calls n l (if t then zero_set to else (computed_by o w w to x (Number k) ∷ [])) fr s (set part r)) (sym (eqb-suc-zero c))
          (simple o s part r r i j is.0 (whole w r (omega arith)))

  -- a shift
  shifts : {fr : Frame} {w : Word} {to : CPath} {x y : COpnd} (o : COp) (s : State) (part : IsPart fr w to) (a b k r : ℕ) → IsNumber p s.store fr w x a → IsApart to x → IsNumber p s.store fr w y b → IsApart to y
      → (nat_lt b (bits w) ≡ true → (operation o (bits (inner w)) a b ≡ ok k) × (k % 2 ^ bits (inner w) % 2 ^ bits w ≡ r)) → (nat_lt b (bits w) ≡ false → r ≡ 0)
      → Changes p calls n l (shifted_by o w to x y) fr s (set part r)
  unfolding to_block
  shifts {fr} {w} {to} {x} {y} o s part a b k r i di j dj by_few by_many = by_test (nat_lt b (bits w)) refl
    where
      width_is : IsNumber p s.store fr w (Number (bits w)) (bits w)
      width_is = record { value = literal (bits w); read = refl; given = literal_given w (bits w) (width_fits w) }

      tests : (t : Bool) → nat_lt b (bits w) ≡ t → (z : Block) (steps : ℕ) (after : Frame) → Goes z (set part (flag t)) s steps after → Goes (also (computed_by op.Lt w w to y (Number (bits w))) z) fr s (suc steps) after
      tests t e = computes op.Lt s part (flag t) (flag t) j width_is (ap (λ z. ok (flag z)) e) (whole w (flag t) (bit_fits w (flag t) (flag_is_small t)))

      test_read : (t : Bool) → judged_word p.program.structs s.store (set part (flag t)) (Path to) ≡ ok (flag t)
      test_read t = number_read (set_read p s.store part (flag t) (bit_fits w (flag t) (flag_is_small t)))

      by_test : (t : Bool) → nat_lt b (bits w) ≡ t → Changes p calls n l (shifted_by o w to x y) fr s (set part r)
      by_test false e =
          changes (shifted_by o w to x y) fr s 2 (set part r) (omega arith)
          (tests false e _ 1 (set part r) (chooses (set part 0) s (Path to) _ _ 0 0 (set part r) (test_read false)
          (λ rest. ends (set part 0) s rest (0 + rest) refl ∙ ap (λ z. done (goes (set part z)) s rest) (sym (by_many e)))))
      by_test true e =
          changes (shifted_by o w to x y) fr s 3 (set part r) (omega arith)
          (tests true e _ 2 (set part r) (chooses (set part 1) s (Path to) _ _ 1 1 (set part r) (test_read true)
          (λ rest. one o s (still_part part 1) k r (still_number part 1 i di) (still_number part 1 j dj) (by_few e).0 (by_few e).1 rest (1 + rest) refl ∙ ap (λ z. done (goes z) s rest) (set_twice part 1 r))))

  -- a shift by any operand
  shifts_by : {fr : Frame} {w : Word} {to : CPath} {x : COpnd} (y : COpnd) (o : COp) (s : State) (part : IsPart fr w to) (a b k r : ℕ) → IsNumber p s.store fr w x a → IsApart to x → IsNumber p s.store fr w y b → IsApart to y
      → (nat_lt b (bits w) ≡ true → (operation o (bits (inner w)) a b ≡ ok k) × (k % 2 ^ bits (inner w) % 2 ^ bits w ≡ r)) → (nat_lt b (bits w) ≡ false → r ≡ 0)
      → Changes p calls n l (shifting o w to x y) fr s (set part r)
  shifts_by (Path shift) o s part a b k r i di j dj by_few by_many = shifts o s part a b k r i di j dj by_few by_many
  shifts_by {fr} {w} {to} {x} (Number c) o s part a b k r i di j dj by_few by_many =
      subst (λ z. Changes p calls n l (if nat_lt z (bits w) then computed_by o w w to x (Number c) ∷ [] else zero_set to) fr s (set part r)) (sym (literal_is s j))
      (by_test (nat_lt b (bits w)) refl)
    where
      by_test : (t : Bool) → nat_lt b (bits w) ≡ t → Changes p calls n l (if t then computed_by o w w to x (Number c) ∷ [] else zero_set to) fr s (set part r)
      by_test true e = simple o s part k r i j (by_few e).0 (by_few e).1
      by_test false e = cleared s part r (by_many e)

  -- a complement
  flips : {fr : Frame} {w : Word} {to : CPath} {x : COpnd} (s : State) (part : IsPart fr w to) (a : ℕ) → IsNumber p s.store fr w x a
      → Changes p calls n l (assign to (Flip w (inner w) x) ∷ []) fr s (set part (on_one ops.Complement (bits w) a))
  unfolding to_block
  flips {fr} {w} {to} {x} s part a i =
      changes (assign to (Flip w (inner w) x) ∷ []) fr s 1 _ (omega arith)
      (assigns (Flip w (inner w) x) s part (word_value w _) _ (λ fr s left. refl) flipped_is (word_given_back w _) stop 0 _ (ends _ s))
    where
      flipped_is : plain p.program.structs s.store fr (Flip w (inner w) x) ≡ ok (word_value w (on_one ops.Complement (bits w) a))
      flipped_is =
          ap (λ z. on z (λ n. ok (flipped w (inner w) n))) (number_read i)
          ∙ ap (λ z. ok (converted w ((2 ^ bits (inner w) - 1) - z))) (cast w a (below i))
          ∙ ap (λ z. ok (word_value w z)) (complement_kept w a (below i))

-- ---- what is computed for each operator

-- a test gives a truth value, which is kept at whatever word it is computed
flag_kept : (w : Word) (t : Bool) → flag t % 2 ^ bits (inner w) % 2 ^ bits U8 ≡ truth t
flag_kept w true = small w 1 (omega arith)
flag_kept w false = small w 0 (omega arith)

-- of a truth value, whether it is 0 is what `not` gives
not_is : (w : Word) (a : ℕ) → a < 2 → flag (nat_eq a 0) % 2 ^ bits (inner w) % 2 ^ bits U8 ≡ on_one ops.Not 1 a
not_is w zero h = small w 1 (omega arith)
not_is w (suc zero) h = small w 0 (omega arith)
not_is w (suc (suc a)) h = let bad : ⊥ = omega arith in absurd bad

-- by a number that isn't 0
abbrev Divides : COp → Op → Word → ℕ → ℕ → Type 0
Divides o operator w a b = (operation o (bits (inner w)) a b ≡ ok (on_two operator (bits w) a b)) × (on_two operator (bits w) a b ≤ a)

quotient_is : (w : Word) (a b c : ℕ) → b ≡ suc c → Divides op.Div ops.Div w a b
quotient_is w a b c e =
    subst (λ z. Divides op.Div ops.Div w a z) (sym e) (
      ap (λ t. cond t (no ByZero) (ok (a / suc c))) (eqb-suc-zero c) ∙ sym (ap (λ t. ok (if t then zero else a / suc c)) (eqb-suc-zero c)),
      subst (λ t. (if t then zero else a / suc c) ≤ a) (sym (eqb-suc-zero c)) (div-le_self a (suc c)),
    )

remainder_is : (w : Word) (a b c : ℕ) → b ≡ suc c → Divides op.Rem ops.Rem w a b
remainder_is w a b c e =
    subst (λ z. Divides op.Rem ops.Rem w a z) (sym e) (
      ap (λ t. cond t (no ByZero) (ok (a % suc c))) (eqb-suc-zero c) ∙ sym (ap (λ t. ok (if t then zero else a % suc c)) (eqb-suc-zero c)),
      subst (λ t. (if t then zero else a % suc c) ≤ a) (sym (eqb-suc-zero c)) (mod-le a (suc c)),
    )

-- by fewer bits than the word has
abbrev Shifts : COp → Op → Word → ℕ → ℕ → ℕ → Type 0
Shifts o operator w a b k = (operation o (bits (inner w)) a b ≡ ok k) × (k % 2 ^ bits (inner w) % 2 ^ bits w ≡ on_two operator (bits w) a b)

within_inner : (w : Word) (b : ℕ) → nat_lt b (bits w) ≡ true → nat_lt b (bits (inner w)) ≡ true
within_inner w b e = lt-ltb b (bits (inner w)) (bits_kept w b (ltb-true b (bits w) e))

shifted_left : (w : Word) (a b : ℕ) → nat_lt b (bits w) ≡ true → Shifts op.Shl ops.Shl w a b (a * 2 ^ b)
shifted_left w a b e = (
  ap (λ t. cond t (ok (a * 2 ^ b)) (no ShiftTooFar)) (within_inner w b e),
  kept w (a * 2 ^ b) ∙ sym (ap (λ t. if t then (a * 2 ^ b) % 2 ^ bits w else zero) e),
)

shifted_right : (w : Word) (a b : ℕ) → a < 2 ^ bits w → nat_lt b (bits w) ≡ true → Shifts op.Shr ops.Shr w a b (a / 2 ^ b)
shifted_right w a b h e =
    let le : a / 2 ^ b ≤ a = div-le_self a (2 ^ b) in (
      ap (λ t. cond t (ok (a / 2 ^ b)) (no ShiftTooFar)) (within_inner w b e),
      whole w (a / 2 ^ b) (omega arith) ∙ sym (ap (λ t. if t then a / 2 ^ b else zero) e),
    )

zero_number : (p : Linked) (m : Stored) (fr : Frame) (w : Word) → IsNumber p m fr w (Number 0) 0
zero_number p m fr w = record { value = literal 0; read = refl; given = literal_given w 0 (bit_fits w 0 (omega arith)) }

-- ---- each operator

pub operators_compute : OperatorsCompute
operators_compute ops.Add w to x y p calls n l fr s a b i di j h part = simple p calls n l op.Add s part (a + b) ((a + b) % 2 ^ bits w) i j.0 refl (kept w (a + b))
operators_compute ops.Sub w to x y p calls n l fr s a b i di j h part = simple p calls n l op.Sub s part ((a + 2 ^ bits (inner w)) - b) (on_two ops.Sub (bits w) a b) i j.0 refl (difference w a b (below j.0))
operators_compute ops.Mul w to x y p calls n l fr s a b i di j h part = simple p calls n l op.Mul s part (a * b) ((a * b) % 2 ^ bits w) i j.0 refl (kept w (a * b))
operators_compute ops.Div w to x y p calls n l fr s a b i di j h part =
    divides_by p calls n l y op.Div s part a b (on_two ops.Div (bits w) a b) i j.0 (ap (λ z. on_two ops.Div (bits w) a z)) (quotient_is w a b)
operators_compute ops.Rem w to x y p calls n l fr s a b i di j h part =
    divides_by p calls n l y op.Rem s part a b (on_two ops.Rem (bits w) a b) i j.0 (ap (λ z. on_two ops.Rem (bits w) a z)) (remainder_is w a b)
operators_compute ops.And w to x y p calls n l fr s a b i di j h part = simple p calls n l op.And s part (bit_and a b) (bit_and a b) i j.0 refl (whole w (bit_and a b) (and_lt (bits w) a b (below i) (below j.0)))
operators_compute ops.Or w to x y p calls n l fr s a b i di j h part = simple p calls n l op.Or s part (bit_or a b) (bit_or a b) i j.0 refl (whole w (bit_or a b) (or_lt (bits w) a b (below i) (below j.0)))
operators_compute ops.Xor w to x y p calls n l fr s a b i di j h part = simple p calls n l op.Xor s part (bit_xor a b) (bit_xor a b) i j.0 refl (whole w (bit_xor a b) (xor_lt (bits w) a b (below i) (below j.0)))
operators_compute ops.Shl w to x y p calls n l fr s a b i di j h part =
    shifts_by p calls n l y op.Shl s part a b (a * 2 ^ b) (on_two ops.Shl (bits w) a b) i di j.0 j.1 (shifted_left w a b) (ap (λ t. if t then (a * 2 ^ b) % 2 ^ bits w else zero))
operators_compute ops.Shr w to x y p calls n l fr s a b i di j h part =
    shifts_by p calls n l y op.Shr s part a b (a / 2 ^ b) (on_two ops.Shr (bits w) a b) i di j.0 j.1 (shifted_right w a b (below i)) (ap (λ t. if t then a / 2 ^ b else zero))
operators_compute ops.Eq w to x y p calls n l fr s a b i di j h part = simple p calls n l op.Eq s part (flag (nat_eq a b)) (truth (nat_eq a b)) i j.0 refl (flag_kept w (nat_eq a b))
operators_compute ops.Ne w to x y p calls n l fr s a b i di j h part = simple p calls n l op.Ne s part (flag (not (nat_eq a b))) (truth (not (nat_eq a b))) i j.0 refl (flag_kept w (not (nat_eq a b)))
operators_compute ops.Lt w to x y p calls n l fr s a b i di j h part = simple p calls n l op.Lt s part (flag (nat_lt a b)) (truth (nat_lt a b)) i j.0 refl (flag_kept w (nat_lt a b))
operators_compute ops.Gt w to x y p calls n l fr s a b i di j h part = simple p calls n l op.Gt s part (flag (nat_lt b a)) (truth (nat_lt b a)) i j.0 refl (flag_kept w (nat_lt b a))
operators_compute ops.Le w to x y p calls n l fr s a b i di j h part = simple p calls n l op.Le s part (flag (nat_le a b)) (truth (nat_le a b)) i j.0 refl (flag_kept w (nat_le a b))
operators_compute ops.Ge w to x y p calls n l fr s a b i di j h part = simple p calls n l op.Ge s part (flag (nat_le b a)) (truth (nat_le b a)) i j.0 refl (flag_kept w (nat_le b a))
operators_compute ops.Both w to x y p calls n l fr s a b i di j h part =
    let f : a < 2 = h.0 in
    let g : b < 2 = h.1 in
    simple p calls n l op.And s part (bit_and a b) (bit_and a b) i j.0 refl (small w (bit_and a b) (and_lt 8 a b (omega arith) (omega arith)))
operators_compute ops.Either w to x y p calls n l fr s a b i di j h part =
    let f : a < 2 = h.0 in
    let g : b < 2 = h.1 in
    simple p calls n l op.Or s part (bit_or a b) (bit_or a b) i j.0 refl (small w (bit_or a b) (or_lt 8 a b (omega arith) (omega arith)))
operators_compute ops.Complement w to x y p calls n l fr s a b i di j h part = flips p calls n l s part a i
operators_compute ops.Not w to x y p calls n l fr s a b i di j h part = simple p calls n l op.Eq s part (flag (nat_eq a 0)) (on_one ops.Not 1 a) i (zero_number p s.store fr w) refl (not_is w a h)

-- statements that are an operator's C do what it does
pub computed_where : (o : Op) (w : Word) (to : CPath) (x y : COpnd) (made : Result (List CStmt) Memory) → IfOk made (λ stmts. map stmt_of stmts ≡ op_code o w to x y)
    → IfOk made (λ stmts. Computes o w to x y (map stmt_of stmts))
computed_where o w to x y (Ok stmts) e = subst (Computes o w to x y) (sym e) (operators_compute o w to x y)
computed_where o w to x y (Err memory) e = tt
