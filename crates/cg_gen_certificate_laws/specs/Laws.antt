-- What holds of the certificate of the generated source's kernel (docs/LANGUAGE.md, "Generator").
use Rattle.std.specs.Prelude.{ℕ, ◌≤◌, length, map}
use Rattle.cg_cert.specs.Certificates.{certificate}
use Rattle.cg_cert.specs.Texts.{text as text_of}
use Rattle.cg_check_def.specs.Kept.{function_tree}
use Rattle.cg_gen_def.specs.Kernels.{functions}

-- The text of the certificate of so many functions is within its limit (2^26 bytes).
abbrev pub CertificateIsShort : Type 0
CertificateIsShort = (n : ℕ) → n ≤ 4096 → length (text_of (certificate (functions n) (map (function_tree (functions n)) (functions n)))) ≤ 67108864
