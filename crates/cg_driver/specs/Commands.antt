-- The judgements of the commands' steps, what each comes to, and the commands as lists of steps (docs/LANGUAGE.md, "Commands"): a new command
-- is a line of `script_of`, with the judgements of its own steps.
use Rattle.std.specs.Prelude.{◌≡◌, ◌⊎◌, ℕ, ◌<◌, ◌≤◌, ◌++◌, true, false, List, [], ◌∷◌, length, position, slice_get, Option, Some, None, Err, String, codes, bytes_eq}
use Rattle.std.specs.declared.alloc.Global.{Global}
use Rattle.cg_base.specs.declared.limit.Limit.{Limit}
use Rattle.cg_base.specs.declared.limit.Limit.TheVariants.{Source, Nesting, Functions, Fields, Ty, Depth, Heap, Certificate}
use Rattle.cg_base.specs.declared.place.Place.{Place}
use Rattle.cg_cert.specs.Answers.{Answers as IsReadAs}
use Rattle.cg_cert.specs.declared.cert.Cert.{Cert}
use Rattle.cg_cert.specs.declared.fault.CertFault.TheVariants.{C1, C2, C3, Limit as Beyond}
use Rattle.cg_cert.specs.Texts.{CertText}
use Rattle.cg_certcheck_def.specs.Events.{cert_events, first_failing}
use Rattle.cg_certcheck_laws.specs.Laws.{SpellsDerivation}
use Rattle.cg_faults.specs.Fails.{AreTypesWithin, Fails}
use Rattle.cg_graphs.specs.Circles.{NoCircle}
use Rattle.cg_lower.specs.Collected.{Copy}
use Rattle.cg_core.specs.Kernels.{Function}
use Rattle.cg_resolve_def.specs.Faults.{NameFault, program_faults}
use Rattle.cg_resolve_def.specs.Mentions.{mentions}
use Rattle.cg_resolve_def.specs.Order.{AreOrdered, AreGrowing}
use Rattle.cg_resolve_def.specs.Takes.{missing_fields}
use Rattle.cg_driver_entry.specs.Entries.{ReachesAbstract}
use Rattle.cg_faults.specs.declared.rule.Rule.{Rule}
use Rattle.cg_faults.specs.Rule.{rule, type_limit}
use Rattle.cg_gen.specs.Generated.{entry as made_entry, heap as made_heap, source as made_source}
use Rattle.cg_heaptext.specs.Answers.{IsFault}
use Rattle.cg_heaptext.specs.declared.fault.HeapFault.{HeapFault}
use Rattle.cg_heaptext_def.specs.HeapText.{HeapText}
use Rattle.cg_core_def.specs.Lawful.{IsLawfulKernel}
use Rattle.cg_resolve_names.specs.Says.{IsFirst}
use Rattle.cg_parser_def.specs.Grammar.{Spells}
use Rattle.cg_parser.specs.Answers.{Answers as Parses}
use Rattle.cg_parser.specs.declared.fault.ParseFault.TheVariants.{S1, S2, S3, S4}
use Rattle.cg_resolve.specs.Answers.{IsCircleAt}
use Rattle.cg_driver_steps.specs.declared.status.Status.TheVariants.{Refused, Usage, StepLimit, HeapRefused, CertRefused, TooLarge}
use Rattle.cg_driver_steps.specs.declared.status.Status.{Status}
use Rattle.cg_driver_steps.specs.Steps.{Outcome, refuses, goes, Step, reads, writes, judged_first}
use Rattle.cg_driver_steps.specs.Scripts.{Script}
use Rattle.cg_surface.specs.Programs.{Entry}
use Rattle.cg_resolve_takes.specs.Says as takes
use Rattle.cg_typing.specs.Accepted.{IsAcceptedKernel}
use Rattle.cg_driver_words.specs.Words.{Command, check, build, gen, recheck, run, command_of, default_steps, texts}
use Rattle.cg_value.specs.Foreign.{Foreign}
use Rattle.cg_value.specs.Values.{Val}
use Rattle.cg_base.specs.Types.{Tau}
use Rattle.cg_driver.specs.Externs.{Extern}
use Rattle.cg_driver.specs.Found.{Argument, Found, nothing, with_source, with_program, with_copies, with_certificate, with_cert, with_entry, with_heap, with_argument, with_value, functions, source_limit, certificate_limit, heap_limit, bound, quantity}
use Rattle.cg_driver_lines.specs.Lines.{usage_text, ok_line, built_line as written_line, fault_line, name_rule, rule_line, rechecked_line as accepted_text, byte_line, node_line, no_entry_line, entry_type_line, abstract_line, heap_line, limit_name, limit_line, step_limit_line}
use Rattle.cg_driver.specs.Entered.{argument_type, is_entry, result_type}
use Rattle.cg_driver.specs.Instanced.{HasInstances, PassesInstances, IsCompiled, emitted, certified_text}
use Rattle.cg_driver.specs.Run.{Evaluates, RunsOut, IsReport}

-- The judgements, in the order of the steps; each has the names that it prints. The words are no command; a quantity is within its limit; the
-- source spells a program (S1 to S4); its names are known, apart and have their arguments (N1, N2, N4), nothing mentions itself (N3), and
-- what is taken is there (N5); the typing rules derive each function of its kernel, and no type of a node passes the limit: else the first
-- condition that fails in the order of reading is told, which is a rule (K1 to K7, T1 to T14) with its place, or that limit (`type`); the
-- certificate file holds the text of a certificate (C1), and that spells a derivation of the kernel, and no type of a node passes the
-- limit: else the first condition that fails in the order of nodes is told, which is C2 or C3 with its node, or that limit (`type`); the
-- instances are within all their limits, else the first that they pass is told; the certificate that would be written is within its own; the
-- source has the entry (E1), whose type is allowed (E2), and which reaches no abstract function (M1); the heap file holds an argument of the
-- entry's type (H1 to H7); evaluation over a table of abstract functions ends within the steps. That table is the one thing that the lists of
-- judgements take from it, so a judgement says what it says of any table.
pub data Judgement : Type 0 where
  no_command : Judgement
  within : Limit → Judgement
  spelled : List ℕ → Judgement
  named : List ℕ → Judgement
  acyclic : List ℕ → Judgement
  with_fields : List ℕ → Judgement
  typed : List ℕ → Judgement
  written : List ℕ → Judgement
  certified : List ℕ → Judgement
  instanced : Judgement
  certifiable : Judgement
  has_entry : List ℕ → List ℕ → Judgement
  allowed : List ℕ → Judgement
  concrete : List ℕ → Judgement
  has_argument : List ℕ → Judgement
  evaluated : Foreign → ℕ → Judgement

-- The line of a fault of syntax: the bytes spell no program, and this is the first place where they go on with none, by its rule.
pub data RefusesSyntax (file source text : List ℕ) : Type 0 where
  unknown_byte : (place : Place) → Parses source (Err (S1 place)) → text ≡ fault_line file place (codes "S1 unknown byte") → RefusesSyntax file source text
  open_comment : (place : Place) → Parses source (Err (S2 place)) → text ≡ fault_line file place (codes "S2 comment not closed") → RefusesSyntax file source text
  unexpected : (place : Place) → Parses source (Err (S3 place)) → text ≡ fault_line file place (codes "S3 unexpected token") → RefusesSyntax file source text
  wrong_bar : (place : Place) → Parses source (Err (S4 place)) → text ≡ fault_line file place (codes "S4 bar in no open match") → RefusesSyntax file source text

-- the line of the first of a program's faults N1, N2 and N4, which stand in order: so it is the one at the least place, and of two at one
-- place the one with the lower number
pub record RefusesNames (file : List ℕ) (p : List Entry) (text : List ℕ) : Type 0 where
  pub ordered : AreOrdered (program_faults p)
  pub fault : NameFault
  pub first : IsFirst fault (program_faults p)
  pub line : text ≡ name_rule file fault

-- the line of the first circle of mentions
pub record RefusesCircle (file : List ℕ) (p : List Entry) (text : List ℕ) : Type 0 where
  pub place : Place
  pub first : IsCircleAt p place
  pub line : text ≡ fault_line file place (codes "N3 circle of mentions")

-- the line of the first field that is taken where it isn't there; their places stand in order
pub record RefusesTake (file : List ℕ) (p : List Entry) (text : List ℕ) : Type 0 where
  pub growing : AreGrowing (missing_fields p)
  pub place : Place
  pub first : takes.IsFirst place (missing_fields p)
  pub line : text ≡ fault_line file place (codes "N5 take of no field")

-- the line of the fault of kinds and types: the kernel is lawful, as it is wherever the steps before went, and the first condition of it
-- that fails in the order of reading is that of this rule, at this place
pub record RefusesTyping (file : List ℕ) (fs : List Function) (text : List ℕ) : Type 0 where
  pub lawful : IsLawfulKernel fs
  pub broken : Rule
  pub place : Place
  pub fails : Fails fs (rule broken) place
  pub line : text ≡ fault_line file place (rule_line broken)

-- the line of the limit on types: the first condition of a lawful kernel that fails is that limit, at some place, which isn't told
pub record RefusesType (fs : List Function) (text : List ℕ) : Type 0 where
  pub lawful : IsLawfulKernel fs
  pub place : Place
  pub fails : Fails fs type_limit place
  pub line : text ≡ limit_line (codes "type")

-- the fault of a certificate: the first condition that fails in the order of nodes is a node's row (C2), that a node or a name is missing or
-- surplus (C3), or the limit on types
pub data RefusesNode (file : List ℕ) (fs : List Function) (cert : Cert) (status : Status) (text : List ℕ) : Type 0 where
  broken_row : (node : ℕ) → first_failing (cert_events fs cert) ≡ Some (C2 node) → status ≡ CertRefused → text ≡ node_line file (codes "C2") node
      → RefusesNode file fs cert status text
  out_of_place : (node : ℕ) → first_failing (cert_events fs cert) ≡ Some (C3 node) → status ≡ CertRefused → text ≡ node_line file (codes "C3") node
      → RefusesNode file fs cert status text
  too_large : first_failing (cert_events fs cert) ≡ Some (Beyond Ty) → status ≡ TooLarge → text ≡ limit_line (codes "type")
      → RefusesNode file fs cert status text

-- the line of the first fault of a heap file, read at a type
pub record RefusesHeap (heap bytes : List ℕ) (t : Tau) (text : List ℕ) : Type 0 where
  pub fault : HeapFault
  pub first : IsFault bytes t fault
  pub line : text ≡ heap_line heap fault

-- what a heap file holds at the type of the entry's argument
abbrev pub HoldsArgument : List ℕ → Tau → Argument → Type 0
HoldsArgument bytes t a = HeapText bytes t a.cells a.scalars a.value

-- the position of the first function of a name
abbrev pub entry_at : List ℕ → List Function → Option ℕ
entry_at name functions = position (λ f. bytes_eq f.at.name name) functions

-- what each judgement comes to
abbrev pub Judges : Judgement → Found → Outcome Found → Type 0
Judges no_command found (refuses status text) = (status ≡ Usage) × (text ≡ usage_text)
Judges no_command found (goes next) = ⊥
Judges (within limit) found (refuses status text) = (status ≡ TooLarge) × (text ≡ limit_line (limit_name limit)) × (bound limit < quantity limit found)
Judges (within limit) found (goes next) = (next ≡ found) × (quantity limit found ≤ bound limit)
Judges (spelled file) found (refuses status text) = (status ≡ Refused) × RefusesSyntax file found.source text
Judges (spelled file) found (goes next) = (p : List Entry) × (next ≡ with_program p found) × Spells found.source p
Judges (named file) found (refuses status text) = (status ≡ Refused) × RefusesNames file found.program text
Judges (named file) found (goes next) = (next ≡ found) × (program_faults found.program ≡ [])
Judges (acyclic file) found (refuses status text) = (status ≡ Refused) × RefusesCircle file found.program text
Judges (acyclic file) found (goes next) = (next ≡ found) × NoCircle (mentions found.program)
Judges (with_fields file) found (refuses status text) = (status ≡ Refused) × RefusesTake file found.program text
Judges (with_fields file) found (goes next) = (next ≡ found) × (missing_fields found.program ≡ [])
Judges (typed file) found (refuses status text) =
    ((status ≡ Refused) × RefusesTyping file (functions found) text) ⊎ ((status ≡ TooLarge) × RefusesType (functions found) text)
Judges (typed file) found (goes next) = (next ≡ found) × IsAcceptedKernel (functions found) × AreTypesWithin (functions found)
Judges (written file) found (refuses status text) = (byte : ℕ) × (status ≡ CertRefused) × (text ≡ byte_line file byte) × IsReadAs found.certificate (Err (C1 byte))
Judges (written file) found (goes next) = (cert : Cert) × (next ≡ with_cert cert found) × CertText found.certificate cert
Judges (certified file) found (refuses status text) = IsLawfulKernel (functions found) × RefusesNode file (functions found) found.cert status text
Judges (certified file) found (goes next) = (next ≡ found) × SpellsDerivation (functions found) found.cert × AreTypesWithin (functions found)
Judges instanced found (refuses status text) = (status ≡ TooLarge) × PassesInstances (functions found) text
Judges instanced found (goes next) = (copies : List Copy) × (next ≡ with_copies copies found) × HasInstances (functions found) copies
Judges certifiable found (refuses status text) =
    (status ≡ TooLarge) × (text ≡ limit_line (limit_name Certificate)) × (certificate_limit < length (certified_text (functions found)))
Judges certifiable found (goes next) = (next ≡ found) × (length (certified_text (functions found)) ≤ certificate_limit)
Judges (has_entry file name) found (refuses status text) = (status ≡ Refused) × (text ≡ no_entry_line file) × (entry_at name (functions found) ≡ None)
Judges (has_entry file name) found (goes next) = (at : ℕ) × (next ≡ with_entry at found) × (entry_at name (functions found) ≡ Some at)
Judges (allowed file) found (refuses status text) = (status ≡ Refused) × (text ≡ entry_type_line file) × (is_entry (slice_get (functions found) found.at) ≡ false)
Judges (allowed file) found (goes next) = (next ≡ found) × (is_entry (slice_get (functions found) found.at) ≡ true)
Judges (concrete file) found (refuses status text) = (status ≡ Refused) × (text ≡ abstract_line file) × ReachesAbstract (functions found) found.at
Judges (concrete file) found (goes next) = (next ≡ found) × (ReachesAbstract (functions found) found.at → ⊥)
Judges (has_argument heap) found (refuses status text) = (status ≡ HeapRefused) × RefusesHeap heap found.heap (argument_type (functions found) found.at) text
Judges (has_argument heap) found (goes next) = (a : Argument) × (next ≡ with_argument a found) × HoldsArgument found.heap (argument_type (functions found) found.at) a
Judges (evaluated x steps) found (refuses status text) = (status ≡ StepLimit) × (text ≡ step_limit_line steps) × RunsOut x (functions found) found.at found.argument.value steps
Judges (evaluated x steps) found (goes next) =
    (value : Val) × (cost : ℕ) × (next ≡ with_value value cost found) × Evaluates x (functions found) found.at found.argument.value steps value cost

-- ---- the lists

-- the steps that all commands on a source share, once it was read
abbrev pub kernel_rules : List ℕ → List Judgement
kernel_rules file = typed file ∷ []

abbrev pub resolving_rules : List ℕ → List Judgement
resolving_rules file = named file ∷ acyclic file ∷ with_fields file ∷ within Functions ∷ within Fields ∷ within Ty ∷ within Depth ∷ []

abbrev pub reading_rules : List ℕ → List Judgement
reading_rules file = within Source ∷ spelled file ∷ within Nesting ∷ resolving_rules file

abbrev pub source_rules : List ℕ → List Judgement
source_rules file = reading_rules file ++ kernel_rules file

-- those of `build` behind these
abbrev pub built_rules : List ℕ → List Judgement
built_rules file = source_rules file ++ instanced ∷ certifiable ∷ []

-- those of `recheck`, once the certificate file was read
abbrev pub text_rules : List ℕ → List Judgement
text_rules certificate = within Certificate ∷ written certificate ∷ []

abbrev pub certificate_rules : List ℕ → List Judgement
certificate_rules certificate = text_rules certificate ++ certified certificate ∷ []

-- those of `run` before the instances are listed, by the functions alone, and those behind the read of the heap file
abbrev pub type_rules : List ℕ → List Judgement
type_rules file = allowed file ∷ concrete file ∷ []

abbrev pub entry_rules : List ℕ → List ℕ → List Judgement
entry_rules file entry = has_entry file entry ∷ type_rules file

abbrev pub heap_rules : List ℕ → List Judgement
heap_rules heap = within Heap ∷ has_argument heap ∷ []

abbrev pub run_rules : Extern → List ℕ → ℕ → List Judgement
run_rules table heap steps = heap_rules heap ++ evaluated table.values steps ∷ []

-- the name that a refusal of a generated source and its heap file would tell
abbrev pub made_name : List ℕ
made_name = codes "gen"

-- those of `gen`, over a source of so many functions and a heap file that it made
abbrev pub made_rules : Extern → ℕ → List Judgement
made_rules table n = source_rules made_name ++ entry_rules made_name (made_entry n) ++ instanced ∷ certifiable ∷ run_rules table made_name default_steps

-- a source that is read
abbrev pub reads_source : List ℕ → Step Judgement Found
reads_source file = reads file source_limit with_source

abbrev pub reads_certificate : List ℕ → Step Judgement Found
reads_certificate certificate = reads certificate certificate_limit with_certificate

abbrev pub reads_heap : List ℕ → Step Judgement Found
reads_heap heap = reads heap heap_limit with_heap

-- What is printed at status 0: how many functions there are; how many instances there are too, and then their C text means what they do and
-- the certificate is one of the source; that the certificate is in order; the seven lines of a run.
abbrev pub checked_line : Found → List ℕ → Type 0
checked_line found text = text ≡ ok_line (functions found)

abbrev pub IsBuilt : Found → List ℕ → Type 0
IsBuilt found text = (text ≡ written_line (functions found) (length found.copies)) × IsCompiled (functions found) found.copies

abbrev pub rechecked_line : Found → List ℕ → Type 0
rechecked_line found text = text ≡ accepted_text

abbrev pub ran_lines : Extern → Found → List ℕ → Type 0
ran_lines table found text = IsReport table (functions found) found.copies found.at (result_type (functions found) found.at) found.argument found.value found.cost text

-- the line of `build`, and then those of `run`
pub record IsMade (table : Extern) (found : Found) (text : List ℕ) : Type 0 where
  pub line : List ℕ
  pub lines : List ℕ
  pub built : IsBuilt found line
  pub ran : ran_lines table found lines
  pub text_is : text ≡ line ++ lines

-- the writes of `build`: the C text, and then the certificate
abbrev pub writes_certificate : List ℕ → List (Step Judgement Found)
writes_certificate certificate = writes certificate (λ f. certified_text (functions f)) ∷ []

abbrev pub writes_both : List ℕ → List ℕ → List (Step Judgement Found)
writes_both text certificate = writes text (λ f. emitted f.copies) ∷ writes_certificate certificate

-- the steps of `build` behind the read of the source
abbrev pub build_steps : List ℕ → List ℕ → List ℕ → List (Step Judgement Found)
build_steps file text certificate = judged_first (built_rules file) (writes_both text certificate)

-- the steps of `recheck` from the certificate file on, and all behind the read of the source
abbrev pub certificate_steps : List ℕ → List (Step Judgement Found)
certificate_steps certificate = reads_certificate certificate ∷ judged_first (certificate_rules certificate) []

abbrev pub recheck_steps : List ℕ → List ℕ → List (Step Judgement Found)
recheck_steps file certificate = judged_first (reading_rules file) (certificate_steps certificate)

-- the steps of `run` from the heap file on, and all behind the read of the source
abbrev pub heap_steps : Extern → List ℕ → ℕ → List (Step Judgement Found)
heap_steps table heap steps = reads_heap heap ∷ judged_first (run_rules table heap steps) []

abbrev pub run_steps : Extern → List ℕ → List ℕ → List ℕ → ℕ → List (Step Judgement Found)
run_steps table file entry heap steps = judged_first (source_rules file ++ entry_rules file entry ++ instanced ∷ []) (heap_steps table heap steps)

-- what `gen` begins with: a source of so many functions, and its heap file
abbrev pub made : ℕ → Found
made n = with_heap made_heap (with_source (made_source n) nothing)

-- the commands, over a table of abstract functions; other words are refused
abbrev pub script_of : Extern → Option Command → Script Judgement Found
script_of table None = record { steps = judged_first (no_command ∷ []) []; start = nothing; line = λ found text. ⊥ }
script_of table (Some (check file)) = record { steps = reads_source file ∷ judged_first (source_rules file) []; start = nothing; line = checked_line }
script_of table (Some (build file text certificate)) = record { steps = reads_source file ∷ build_steps file text certificate; start = nothing; line = IsBuilt }
script_of table (Some (recheck file certificate)) = record { steps = reads_source file ∷ recheck_steps file certificate; start = nothing; line = rechecked_line }
script_of table (Some (run file entry heap steps)) = record { steps = reads_source file ∷ run_steps table file entry heap steps; start = nothing; line = ran_lines table }
script_of table (Some (gen n)) = record { steps = judged_first (made_rules table n) []; start = made n; line = IsMade table }

-- the command that the words ask for
abbrev pub asked : Extern → List (String Global) → Script Judgement Found
asked table words = script_of table (command_of (texts words))
