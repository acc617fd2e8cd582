-- What operands in a row are.
use Rattle.std.proofs.Common.{◌≡◌, ℕ, List, [], ◌∷◌, ◌++◌, refl, sym, ap, ◌∙◌}
use Rattle.cg_cmachine_resolve.specs.Lines.{MeanAll, Means}
use Rattle.cg_cmachine_resolve.specs.Scopes.{Scope, frame_of, total}
use Rattle.cg_cmachine_def.specs.Operands.{Frame, judge, judge_all}
use Rattle.cg_cmachine_def.specs.Outcomes.{Judged, ok, no, on}
use Rattle.cg_ctree.specs.declared.tree.COpnd.{COpnd}
use Rattle.cg_ctree.specs.declared.tree.CStruct.{CStruct}
use Rattle.cg_cmachine_values.specs.declared.place.Operand.{Operand}
use Rattle.cg_cmachine_values.specs.Values.{AreWithin, IsOperandWithin, judged, judged_all}
use Rattle.cg_heap.specs.declared.cell.Scalar.{Scalar}
use Rattle.cg_heap.specs.Stored.{Stored}

module _ {A : Type 0} where
  abbrev behind : Judged (List A) → Judged A → Judged (List A)
  behind vs v = on vs (λ vs. on v (λ v. ok (vs ++ v ∷ [])))

  first_behind : (a : A) (vs : Judged (List A)) (v : Judged A) → on (behind vs v) (λ vs. ok (a ∷ vs)) ≡ behind (on vs (λ vs. ok (a ∷ vs))) v
  first_behind a (no why) v = refl
  first_behind a (ok vs) (no why) = refl
  first_behind a (ok vs) (ok v) = refl

  next_behind : (a : Judged A) (vs more : Judged (List A)) (v : Judged A) → more ≡ behind vs v → on a (λ a. on more (λ vs. ok (a ∷ vs))) ≡ behind (on a (λ a. on vs (λ vs. ok (a ∷ vs)))) v
  next_behind (no why) vs more v e = refl
  next_behind (ok a) vs more v e = ap (λ m. on m (λ vs. ok (a ∷ vs))) e ∙ first_behind a vs v

  last_alone : (v : Judged A) → on v (λ v. on (ok []) (λ vs. ok (v ∷ vs))) ≡ behind (ok []) v
  last_alone (ok v) = refl
  last_alone (no why) = refl

judge_push : (ss : List CStruct) (m : Stored) (fr : Frame) (os : List COpnd) (o : COpnd) → judge_all ss m fr (os ++ o ∷ []) ≡ behind (judge_all ss m fr os) (judge ss m fr o)
judge_push ss m fr [] o = last_alone (judge ss m fr o)
judge_push ss m fr (x ∷ os) o = next_behind (judge ss m fr x) (judge_all ss m fr os) (judge_all ss m fr (os ++ o ∷ [])) (judge ss m fr o) (judge_push ss m fr os o)

judged_push : (m : Stored) (us : List Scalar) (qs : List Operand) (q : Operand) → judged_all m us (qs ++ q ∷ []) ≡ behind (judged_all m us qs) (judged m us q)
judged_push m us [] q = last_alone (judged m us q)
judged_push m us (x ∷ qs) q = next_behind (judged m us x) (judged_all m us qs) (judged_all m us (qs ++ q ∷ [])) (judged m us q) (judged_push m us qs q)

within_push : (n : ℕ) (qs : List Operand) (q : Operand) → AreWithin n qs → IsOperandWithin n q → AreWithin n (qs ++ q ∷ [])
within_push n [] q h is = (is, tt)
within_push n (x ∷ qs) q h is = (h.0, within_push n qs q h.1 is)

pub mean_push : (ss : List CStruct) (vs : Scope) (os : List COpnd) (qs : List Operand) (o : COpnd) (q : Operand) → MeanAll ss vs os qs → Means ss vs o q → MeanAll ss vs (os ++ o ∷ []) (qs ++ q ∷ [])
mean_push ss vs os qs o q h is = record {
  within = within_push (total vs) qs q h.within is.within;
  judge = λ m us long.
      judge_push ss m (frame_of vs us) os o ∙ ap (λ a. behind a (judge ss m (frame_of vs us) o)) (h.judge m us long) ∙ ap (behind (judged_all m us qs)) (is.judges m us long)
      ∙ sym (judged_push m us qs q);
}
