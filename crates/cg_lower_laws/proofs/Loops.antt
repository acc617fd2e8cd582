-- Loops: so many steps from a test on, wherever as many turns as steps are left may be made.
use Rattle.std.proofs.Common.{◌≡◌, ℕ, zero, suc, ◌+◌, ◌≤◌, List, [], ◌∷◌, refl, sym, subst, arith}
use Rattle.cg_cmachine_def.specs.Layouts.{Layout}
use Rattle.cg_cmachine_def.specs.Operands.{Frame}
use Rattle.cg_cmachine_def.specs.Outcomes.{State, done, ok}
use Rattle.cg_cmachine_def.specs.Runs.{Linked, goes, judged_word, turns, run_block, run_stmt, calls_in}
use Rattle.cg_ctree.specs.declared.tree.COpnd.{COpnd}
use Rattle.cg_ctree.specs.Trees.{Stmt, while, to_block}
use Rattle.cg_lower_laws.proofs.Runs.{Runs}

pub record Loops (p : Linked) (l : Layout) (o : COpnd) (code : List Stmt) (fr : Frame) (s : State) (steps : ℕ) (fr' : Frame) (s' : State) : Type 0 where
  pub by : (m i b b' : ℕ) → b ≡ steps + b' → b ≤ m → b ≤ i → turns p i o (run_block p (calls_in p m) m l (to_block code)) fr s b ≡ done (goes fr') s' b'

-- the test is 0
pub loops_end : (p : Linked) (l : Layout) (o : COpnd) (code : List Stmt) (fr : Frame) (s : State) → judged_word p.program.structs s.store fr o ≡ ok 0 → Loops p l o code fr s 1 fr s
loops_end p l o code fr s e = record { by = at_turn }
  where
    at_turn : (m i b b' : ℕ) → b ≡ 1 + b' → b ≤ m → b ≤ i → turns p i o (run_block p (calls_in p m) m l (to_block code)) fr s b ≡ done (goes fr) s b'
    at_turn m zero b b' q h k = absurd (omega (arith, q, k))
    at_turn m (suc i) b b' q h k =
        let z : b ≡ suc b' = omega (arith, q) in
        subst (λ z. turns p (suc i) o (run_block p (calls_in p m) m l (to_block code)) fr s z ≡ done (goes fr) s b') (sym z) (rw e refl)

-- it isn't, and a turn is made
pub loops_turn : (p : Linked) (l : Layout) (o : COpnd) (code : List Stmt) (fr fr1 fr2 : Frame) (s s1 s2 : State) (c n k : ℕ) → judged_word p.program.structs s.store fr o ≡ ok (suc c)
    → Runs p l code fr s n fr1 s1 → Loops p l o code fr1 s1 k fr2 s2 → Loops p l o code fr s (1 + n + k) fr2 s2
loops_turn p l o code fr fr1 fr2 s s1 s2 c n k e r q = record { by = at_turn }
  where
    at_turn : (m i b b' : ℕ) → b ≡ 1 + n + k + b' → b ≤ m → b ≤ i → turns p i o (run_block p (calls_in p m) m l (to_block code)) fr s b ≡ done (goes fr2) s2 b'
    at_turn m zero b b' h le le' = absurd (omega (arith, h, le'))
    at_turn m (suc i) b b' h le le' =
        let z : b ≡ suc (n + (k + b')) = omega (arith, h) in
        subst (λ z. turns p (suc i) o (run_block p (calls_in p m) m l (to_block code)) fr s z ≡ done (goes fr2) s2 b') (sym z)
        (rw e (rw (r.by m (n + (k + b')) (k + b') refl (omega (arith, h, le))) (q.by m i (k + b') b' refl (omega (arith, h, le)) (omega (arith, h, le')))))

-- a loop as a statement
pub runs_while : (p : Linked) (l : Layout) (o : COpnd) (code : List Stmt) (fr fr' : Frame) (s s' : State) (n : ℕ) → Loops p l o code fr s n fr' s' → Runs p l (while o (to_block code) ∷ []) fr s n fr' s'
unfolding run_stmt run_block to_block
runs_while p l o code fr fr' s s' n q = record { by = λ m b b' e h. rw (q.by m m b b' e h h) refl }
