-- Each word of a node is read, and is told from all others.
use Rattle.std.proofs.Common.{◌≡◌, ℕ, List, [], ◌++◌, Some, refl}
use Rattle.cg_base.specs.Reader.{run as reader_run}
use Rattle.cg_cert.specs.Machine.{State, reader}
use Rattle.cg_cert.specs.Texts.{node_word}
use Rattle.cg_cert.specs.Words.{words, lead_of}
use Rattle.cg_cert.specs.declared.cert.CertFun.{CertFun}
use Rattle.cg_cert.specs.declared.cert.CertNode.{CertNode}
use Rattle.cg_cert.specs.declared.reader.Mode.TheVariants.{Word}
use Rattle.cg_cert.specs.declared.word.Lead.TheVariants.{Node as NodeWord}
use Rattle.cg_cert.specs.declared.word.Stage.TheVariants.{Inner}
use Rattle.cg_core.specs.declared.derivation.Node.{Node}
use Rattle.cg_core.specs.declared.derivation.Node.TheVariants.{Var, Unit, Bool as Truth, Lit, Fun, Op, App, Let, LetBang, If, Con, Case, Esac, Struct, Member, Take, Put, Cast, Annot}

abbrev pub run : State → List ℕ → State
run = reader_run reader

-- in a function, these bytes of a line's first word are read
abbrev pub at_word : List CertFun → List ℕ → List CertNode → List ℕ → State
at_word fs x ns word = record { mode = Word Inner; word = word; funs = fs; name = x; nodes = ns; strings = []; string = [] }

pub spelt : (n : Node) (fs : List CertFun) (x : List ℕ) (ns : List CertNode) (rest : List ℕ) → run (at_word fs x ns []) (node_word n ++ rest) ≡ run (at_word fs x ns (node_word n)) rest
spelt Var fs x ns rest = refl
spelt Unit fs x ns rest = refl
spelt Truth fs x ns rest = refl
spelt Lit fs x ns rest = refl
spelt Fun fs x ns rest = refl
spelt Op fs x ns rest = refl
spelt App fs x ns rest = refl
spelt Let fs x ns rest = refl
spelt LetBang fs x ns rest = refl
spelt If fs x ns rest = refl
spelt Con fs x ns rest = refl
spelt Case fs x ns rest = refl
spelt Esac fs x ns rest = refl
spelt Struct fs x ns rest = refl
spelt Member fs x ns rest = refl
spelt Take fs x ns rest = refl
spelt Put fs x ns rest = refl
spelt Cast fs x ns rest = refl
spelt Annot fs x ns rest = refl

pub told : (n : Node) → lead_of (words Inner) (node_word n) ≡ Some (NodeWord n)
told Var = refl
told Unit = refl
told Truth = refl
told Lit = refl
told Fun = refl
told Op = refl
told App = refl
told Let = refl
told LetBang = refl
told If = refl
told Con = refl
told Case = refl
told Esac = refl
told Struct = refl
told Member = refl
told Take = refl
told Put = refl
told Cast = refl
told Annot = refl
