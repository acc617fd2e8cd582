-- What the values of the second checker stand for, and that an answer is the one of the pass.
use Rattle.std.specs.Prelude.{◌≡◌, Result, Ok, Err, List, drop, ⊤}
use Rattle.cg_cert.specs.declared.cert.CertNode.{CertNode}
use Rattle.cg_cert.specs.declared.fault.CertFault.{CertFault}
use Rattle.cg_cert.specs.declared.fault.CertFault.TheVariants.{C1, C2, C3, Limit, Memory}
use Rattle.cg_certcheck_context.specs.declared.reached.Split.{Split as Marked}
use Rattle.cg_certcheck_context.specs.declared.reached.Strings.{Strings as Listed}
use Rattle.cg_certcheck_context.specs.declared.source.Cursor.{Cursor as Index}
use Rattle.cg_certcheck_context.specs.Steps.{Split, Strings}
use Rattle.cg_certcheck_def.specs.Pass.{Out, Cursor}

-- where the pass stands among these nodes
abbrev pub cursor_of : List CertNode → Index → Cursor
cursor_of nodes at = record { nodes = drop at.index nodes; next = at.next }

-- what is read where a node is reached, over these nodes
abbrev pub split_in : List CertNode → Marked → Split
split_in nodes s = record { marks = s.marks.now; at = cursor_of nodes s.at }

abbrev pub strings_in : List CertNode → Listed → Strings
strings_in nodes s = record { marks = s.strings.now; at = cursor_of nodes s.at }

-- the answer is that of the pass, unless memory is wanting
abbrev pub Agrees : {A B : Type 0} → (A → B) → Result A CertFault → Out B → Type 0
Agrees view (Ok a) answer = answer ≡ Ok (view a)
Agrees view (Err (C1 at)) answer = answer ≡ Err (C1 at)
Agrees view (Err (C2 n)) answer = answer ≡ Err (C2 n)
Agrees view (Err (C3 n)) answer = answer ≡ Err (C3 n)
Agrees view (Err (Limit limit)) answer = answer ≡ Err (Limit limit)
Agrees view (Err Memory) answer = ⊤
