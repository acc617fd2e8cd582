-- Variants in a heap: what one that is made reaches, the payload that is read, and the others that are left. And types that reach nothing.
use Rattle.std.proofs.Common.{◌≡◌, ℕ, false, nat_eq, true, IsTrue, Some, List, refl, sym, ap, ◌∙◌, subst, eqb-true}
use Rattle.cg_base.proofs.Counts.{no_steps as never}
use Rattle.cg_base.specs.declared.kind.Sigil.{Sigil}
use Rattle.cg_base.specs.declared.kind.Word.{Word}
use Rattle.cg_base.specs.Types as types
use Rattle.cg_base.specs.Types.{Tau, word, bool, arrow, variant}
use Rattle.cg_eval_operations.specs.Positions.{position_among}
use Rattle.cg_heap.specs.declared.cell.Scalar.{Scalar}
use Rattle.cg_heap.specs.Reps.{Heap, HeapWorld, Holds, HoldsAt, first_number, foot, foot_at, tail}
use Rattle.cg_refine.proofs.Parts.{made_at_foot, others_at_foot, read_at_foot}
use Rattle.cg_typing.specs.Operators.{equality, takes}
use Rattle.cg_typing.specs.Parts.{alternative_in, held, is_left, part_named, with_part}
use Rattle.cg_typing_laws.proofs.Named.{left_is_there as left_there}
use Rattle.cg_update.specs.Machines.{part_at}
use Rattle.cg_update.specs.Turns.{alternatives_in, chosen_in, place_in}
use Rattle.cg_update_laws.proofs.Forms.{payload_read as read_payload}
use Rattle.cg_update_laws.proofs.Held.{holds_slots}
use Rattle.cg_value.specs.Forms.{has_name, payload_in}
use Rattle.cg_value.specs.Values.{Val}

module _ (world : HeapWorld) (h : Heap) where
  abbrev H : Tau → List Scalar → Val → Type 0
  H t us v = Holds world h t us v

  -- a variant that is made reaches what its payload does
  pub made_foot : (n : List ℕ) (t : Tau) (us : List Scalar) (v : Val) → IsTrue (is_left (alternative_in n t)) → H (held (alternative_in n t)) us v
      → (m : Sigil) (q : ℕ) → foot h m t (chosen_in n t us) q ≡ foot h m (held (alternative_in n t)) us q
  unfolding foot
  made_foot n (variant ps) us v l k m q = made_at_foot h m q n ps us l (holds_slots world h (held (part_named n ps)) us v k)
  made_foot n _ us v l k m q = never l

  -- a payload, whose scalars stand there, reaches what the variant does
  pub record PayloadRead (n : List ℕ) (t : Tau) (us : List Scalar) (v : Val) : Type 0 where
    pub scalars : List Scalar
    pub there : part_at (place_in n t) (alternatives_in t) (tail us) ≡ Some scalars
    pub holds : H (held (alternative_in n t)) scalars (payload_in v)
    pub same : (m : Sigil) (q : ℕ) → foot h m (held (alternative_in n t)) scalars q ≡ foot h m t us q

  -- the payload of this alternative is read
  pub payload_read : (n : List ℕ) (t : Tau) (us : List Scalar) (v : Val) → H t us v → IsTrue (is_left (alternative_in n t))
      → nat_eq (first_number us) (place_in n t) ≡ true → PayloadRead n t us v
  unfolding Holds foot
  payload_read n (variant ps) us v k l e =
      let r = read_payload world h n (variant ps) us v k l e in
      let is : first_number us ≡ position_among n ps = eqb-true _ _ e in
      record {
        scalars = r.scalars;
        there = r.there;
        holds = r.holds;
        same = λ m q.
            read_at_foot h m q world n ps (tail us) r.scalars k.0 k.1 (left_there (part_named n ps) l) (subst (λ i. HoldsAt world h ps i (tail us) k.0 k.1) is k.4) r.there
            ∙ ap (λ i. foot_at h m ps i (tail us) q) (sym is);
      }
  payload_read n _ us v k l e = never l

  -- another alternative than n reaches what it did, once n is taken
  pub others_foot : (n : List ℕ) (t : Tau) (us : List Scalar) (v : Val) → H t us v → IsTrue (is_left (alternative_in n t)) → has_name n v ≡ false
      → (m : Sigil) (q : ℕ) → foot h m (with_part n true t) us q ≡ foot h m t us q
  unfolding Holds foot has_name
  others_foot n (variant ps) us v k l e m q = others_at_foot h m q world n ps (first_number us) (tail us) k.0 k.1 (sym (ap (has_name n) k.5) ∙ e) k.4
  others_foot n _ us v k l e m q = never l

-- ---- types that reach nothing
module _ (h : Heap) where
  pub word_foot : (w : Word) (us : List Scalar) (m : Sigil) (q : ℕ) → foot h m (word w) us q ≡ 0
  unfolding foot
  word_foot w us m q = refl

  pub bool_foot : (us : List Scalar) (m : Sigil) (q : ℕ) → foot h m bool us q ≡ 0
  unfolding foot
  bool_foot us m q = refl

  pub unit_foot : (us : List Scalar) (m : Sigil) (q : ℕ) → foot h m types.unit us q ≡ 0
  unfolding foot
  unit_foot us m q = refl

  pub arrow_foot : (a b : Tau) (us : List Scalar) (m : Sigil) (q : ℕ) → foot h m (arrow a b) us q ≡ 0
  unfolding foot
  arrow_foot a b us m q = refl

  -- words and truth values
  pub number_foot : (t : Tau) (us : List Scalar) → IsTrue (takes equality t) → (m : Sigil) (q : ℕ) → foot h m t us q ≡ 0
  unfolding foot
  number_foot (word w) us k m q = refl
  number_foot bool us k m q = refl
  number_foot _ us k m q = never k
