-- What reading a certificate answers.
use Rattle.std.specs.Prelude.{ℕ, ◌≤◌, List, length, drop, Result, Ok, Err, ⊤}
use Rattle.cg_base.specs.Reader.{FaultAt}
use Rattle.cg_cert.specs.declared.cert.Cert.{Cert}
use Rattle.cg_cert.specs.declared.fault.CertFault.{CertFault}
use Rattle.cg_cert.specs.declared.fault.CertFault.TheVariants.{C1, C2, C3, Limit, Memory}
use Rattle.cg_cert.specs.Texts.{CertText}

-- The answer is right: the certificate whose text the bytes are; or they are the text of none, the first n of them begin some certificate's
-- text, and none begins with the byte behind them too (C1); or memory is wanting. Nothing else is answered.
abbrev pub Answers : List ℕ → Result Cert CertFault → Type 0
Answers bytes (Ok cert) = CertText bytes cert
Answers bytes (Err (C1 n)) = (n ≤ length bytes) × FaultAt CertText bytes (drop n bytes)
Answers bytes (Err (C2 k)) = ⊥
Answers bytes (Err (C3 k)) = ⊥
Answers bytes (Err (Limit limit)) = ⊥
Answers bytes (Err Memory) = ⊤
