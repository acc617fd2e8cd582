-- What holds of all certificates.
use Rattle.std.specs.Prelude.{◌≡◌, ℕ, List, map, Option, Some, None, Err, ⊤}
use Rattle.std.specs.List.{AllByRecursion}
use Rattle.cg_cert.specs.Answers.{Answers as IsReadAs}
use Rattle.cg_cert.specs.Certificates.{nodes_of, certificate}
use Rattle.cg_cert.specs.declared.cert.Cert.{Cert}
use Rattle.cg_cert.specs.declared.fault.CertFault.TheVariants.{C1}
use Rattle.cg_cert.specs.Texts.{text, IsName, AreNodes, CertText}
use Rattle.cg_core.specs.Derivations.{Derivation}
use Rattle.cg_core.specs.Kernels.{Function, kernel_of}
use Rattle.cg_core.specs.Terms.{Tree, Note}
use Rattle.cg_typing.specs.declared.checked.Checked.{Checked}
use Rattle.cg_typing.specs.Holds.{kernel_in, trees_in}
use Rattle.cg_typing.specs.Kept.{AreKept, maybe_tree}

-- bytes are the text of one certificate at most
abbrev pub OneCertificate : Type 0
OneCertificate = (bytes : List ℕ) (a b : Cert) → CertText bytes a → CertText bytes b → a ≡ b

-- bytes that are refused are refused at one byte, and the text of a certificate at none
abbrev pub OneByte : Type 0
OneByte = (bytes : List ℕ) (n : ℕ) → IsReadAs bytes (Err (C1 n))
    → ((m : ℕ) → IsReadAs bytes (Err (C1 m)) → n ≡ m) × ((cert : Cert) → CertText bytes cert → ⊥)

-- the names of functions can be written
abbrev pub AreNamed : List Function → Type 0
AreNamed functions = AllByRecursion (λ f. IsName f.at.name) functions

-- each mark string of a derivation has a mark, where there is a derivation
abbrev pub IsMarked : Option Derivation → Type 0
IsMarked None = ⊤
IsMarked (Some tree) = AreNodes (nodes_of tree)

abbrev pub AreMarkedTrees : List (Option Derivation) → Type 0
AreMarkedTrees trees = AllByRecursion IsMarked trees

-- the text of a certificate is one of that certificate, where its names and mark strings can be written
abbrev pub PrintedIsRead : Type 0
PrintedIsRead = (functions : List Function) (trees : List (Option Derivation)) → AreNamed functions → AreMarkedTrees trees → CertText (text (certificate functions trees)) (certificate functions trees)

-- what is kept of a source has a mark in each mark string
abbrev pub KeptIsMarked : Type 0
KeptIsMarked = (functions fs : List Function) (cores : List (Option (Tree Note))) (trees : List (Option Derivation)) → AreKept functions fs cores trees → AreMarkedTrees trees

-- so the text of a checked source's certificate is one of that certificate, where the names of its functions can be written
abbrev pub CheckedIsRead : Type 0
CheckedIsRead = (checked : Checked) → AreNamed (kernel_of (kernel_in checked))
    → CertText (text (certificate (kernel_of (kernel_in checked)) (map maybe_tree (trees_in checked)))) (certificate (kernel_of (kernel_in checked)) (map maybe_tree (trees_in checked)))
