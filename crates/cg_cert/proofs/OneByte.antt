-- Bytes are refused at one byte.
use Rattle.std.proofs.Common.{◌≡◌, ◌∙◌, ◌+◌, ◌<◌, ◌≤◌, ℕ, suc, List, [], ◌∷◌, ◌++◌, length, take, drop, get_or, Err, refl, sym, ap, subst, arith, append_assoc}
use Rattle.std.proofs.lemmas.List.{append_cancel_right, take-append-drop, take-take, take_more}
use Rattle.std.proofs.Math.Seq.{drop-cons}
use Rattle.cg_base.specs.Reader.{Begins, FaultAt}
use Rattle.cg_cert.specs.Answers.{Answers}
use Rattle.cg_cert.specs.declared.cert.Cert.{Cert}
use Rattle.cg_cert.specs.declared.fault.CertFault.TheVariants.{C1}
use Rattle.cg_cert.specs.Texts.{CertText}

module _ (bytes : List ℕ) where
  -- what stands before a fault
  front_is : (n : ℕ) (f : FaultAt CertText bytes (drop n bytes)) → f.front ≡ take n bytes
  front_is n f = append_cancel_right f.front (take n bytes) (drop n bytes) (sym f.parts ∙ sym (take-append-drop n bytes))

  -- where more bytes begin a text, so do one more than n of them
  begun : (n m d : ℕ) → n < m → n < length bytes → d ≡ get_or bytes n 0 → Begins CertText (take m bytes) → Begins CertText (take n bytes ++ d ∷ [])
  begun n m d lt short is (rest, cert, spelled) =
      let more : List ℕ = drop (n + 1) (take m bytes) in
      let one : take n bytes ++ d ∷ [] ≡ take (n + 1) bytes = ap (λ x. take n bytes ++ x ∷ []) is ∙ sym (take_more bytes n 0 short) in
      let parts : take (n + 1) bytes ++ more ≡ take m bytes = ap (λ x. x ++ more) (sym (take-take (n + 1) m bytes (omega (arith, lt)))) ∙ take-append-drop (n + 1) (take m bytes) in
      let whole : (take n bytes ++ d ∷ []) ++ (more ++ rest) ≡ take m bytes ++ rest =
      ap (λ x. x ++ (more ++ rest)) one ∙ sym (append_assoc (take (n + 1) bytes) more rest) ∙ ap (λ x. x ++ rest) parts in
      (more ++ rest, cert, subst (λ x. CertText x cert) (sym whole) spelled)

  not_before : (n m : ℕ) → n < m → m ≤ length bytes → FaultAt CertText bytes (drop n bytes) → FaultAt CertText bytes (drop m bytes) → ⊥
  not_before n m lt short a b =
      let here : n < length bytes = omega (arith, lt, short) in
      let d : ℕ = get_or bytes n 0 in
      a.first d (drop (suc n) bytes) (drop-cons bytes n 0 here)
      (subst (λ x. Begins CertText (x ++ d ∷ [])) (sym (front_is n a)) (begun n m d lt here refl (subst (Begins CertText) (front_is m b) b.viable)))

pub one_byte : (bytes : List ℕ) (n m : ℕ) → Answers bytes (Err (C1 n)) → Answers bytes (Err (C1 m)) → n ≡ m
one_byte bytes n m a b =
    let below : n < m → ⊥ = λ lt. not_before bytes n m lt b.0 a.1 b.1 in
    let above : m < n → ⊥ = λ lt. not_before bytes m n lt a.0 b.1 a.1 in
    omega (arith, below, above)

-- where they are a certificate's text they are refused at none
pub no_byte : (bytes : List ℕ) (cert : Cert) (n : ℕ) → CertText bytes cert → Answers bytes (Err (C1 n)) → ⊥
no_byte bytes cert n text a = a.1.none cert text
