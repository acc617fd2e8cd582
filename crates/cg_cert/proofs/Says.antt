-- What the loop over the bytes answers.
use Rattle.std.proofs.Common.{◌≡◌, ℕ, suc, ◌<◌, ◌≤◌, false, cond, List, [], ◌∷◌, length, drop, get_or, Option, Some, None, Result, sym, ap, ◌∙◌, subst, arith}
use Rattle.std.specs.Option.{ok_or}
use Rattle.std.proofs.Math.Seq.{drop-cons}
use Rattle.std.proofs.lemmas.List.{drop_all}
use Rattle.cg_base.specs.Exact.{exact}
use Rattle.cg_base.specs.Reader.{Outcome, Parsed, Fault, ended, parsed, FaultAt, Exact, found, fault}
use Rattle.cg_cert.specs.Answers.{Answers}
use Rattle.cg_cert.specs.Machine.{State, begin, step, is_open, finish, reader}
use Rattle.cg_cert.specs.Texts.{CertText}
use Rattle.cg_cert.specs.declared.cert.Cert.{Cert}
use Rattle.cg_cert.specs.declared.fault.CertFault.{CertFault}
use Rattle.cg_cert.specs.declared.fault.CertFault.TheVariants.{C1}
use Rattle.cg_cert.proofs.Viable.{laws}

fault_of : (bytes rest : List ℕ) (o : Outcome ℕ Cert) → Exact CertText bytes o → o ≡ Fault rest → FaultAt CertText bytes rest
fault_of bytes rest (Parsed d) x e = absurd (cc)
fault_of bytes rest (Fault at) (fault rest_of f) e =
    let same : at ≡ rest = cc in
    let P : List ℕ → Type 0 = FaultAt CertText bytes in subst P same f

text_of : (bytes : List ℕ) (d : Cert) (o : Outcome ℕ Cert) → Exact CertText bytes o → o ≡ Parsed d → CertText bytes d
text_of bytes d (Fault at) x e = absurd (cc)
text_of bytes d (Parsed c) (found tree t one) e =
    let same : c ≡ d = cc in
    let P : Cert → Type 0 = CertText bytes in subst P same t

module _ (bytes : List ℕ) (at : ℕ) (s : State) (read : parsed reader begin bytes ≡ parsed reader s (drop at bytes)) where
  -- at a byte that shuts the machine
  pub shut_answers : (b : ℕ) (next : State) → at < length bytes → b ≡ get_or bytes at 0 → next ≡ step s b → is_open next ≡ false → (at ≤ length bytes) × FaultAt CertText bytes (drop at bytes)
  shut_answers b next l is made closed =
      let more : List ℕ = drop (suc at) bytes in
      let e : drop at bytes ≡ b ∷ more = drop-cons bytes at 0 l ∙ ap (λ z. z ∷ more) (sym is) in
      let shut : is_open (step s b) ≡ false = ap is_open (sym made) ∙ closed in
      let stops : parsed reader s (drop at bytes) ≡ Fault (drop at bytes) =
      ap (parsed reader s) e ∙ ap (λ t. cond t (parsed reader (step s b) more) (Fault (b ∷ more))) shut ∙ ap Fault (sym e) in
      (omega arith, fault_of bytes (drop at bytes) (parsed reader begin bytes) (exact reader CertText laws bytes) (read ∙ stops))

  -- behind the last byte
  pub end_answers : (o : Option Cert) (r : Result Cert CertFault) → length bytes ≤ at → o ≡ finish s → r ≡ ok_or o (C1 (length bytes)) → Answers bytes r
  end_answers None r l e is =
      let none : drop (length bytes) bytes ≡ [] = drop_all (length bytes) bytes (omega arith) in
      let stops : parsed reader s (drop at bytes) ≡ Fault (drop (length bytes) bytes) = ap (parsed reader s) (drop_all at bytes l) ∙ ap (ended reader) (sym e) ∙ ap Fault (sym none) in
      let P : Result Cert CertFault → Type 0 = Answers bytes in
      subst P (sym is) (omega arith, fault_of bytes (drop (length bytes) bytes) (parsed reader begin bytes) (exact reader CertText laws bytes) (read ∙ stops))
  end_answers (Some d) r l e is =
      let stops : parsed reader s (drop at bytes) ≡ Parsed d = ap (parsed reader s) (drop_all at bytes l) ∙ ap (ended reader) (sym e) in
      let P : Result Cert CertFault → Type 0 = Answers bytes in
      subst P (sym is) (text_of bytes d (parsed reader begin bytes) (exact reader CertText laws bytes) (read ∙ stops))
