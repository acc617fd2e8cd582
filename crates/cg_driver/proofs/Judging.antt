-- Each judgement comes to one outcome, refuses with a status of its own, and each command says one text of what it found.
use Rattle.std.proofs.Common.{◌≡◌, ◌⊎◌, inl, inr, ◌<◌, ◌∙◌, ℕ, List, [], ◌∷◌, ◌++◌, Option, Some, None, Result, Err, length, refl, sym, ap, ap₂, subst, arith}
use Rattle.std.specs.Prelude.{codes, slice_get}
use Rattle.std.proofs.lemmas.Option.{same_Some}
use Rattle.cg_base.specs.declared.fun.Fun.TheVariants.{User}
use Rattle.cg_base.specs.declared.place.Place.{Place}
use Rattle.cg_cert.proofs.Complete.{one as one_certificate}
use Rattle.cg_cert.proofs.OneByte.{one_byte, no_byte}
use Rattle.cg_faults.specs.Fails.{AreTypesWithin, Fails}
use Rattle.cg_check_laws.proofs.OneFault.{one_fault}
use Rattle.cg_lower.specs.Collected.{Copy}
use Rattle.cg_core.specs.Kernels.{Function}
use Rattle.cg_cread.proofs.One.{one_program as one_text}
use Rattle.cg_resolve_def.specs.Desugar.{entry_at as name_at}
use Rattle.cg_resolve_def.specs.Faults.{NameFault, program_faults}
use Rattle.cg_eval_def.specs.Evaluation.{evaluation}
use Rattle.cg_faults.specs.declared.rule.Rule.{Rule}
use Rattle.cg_faults.specs.Events.{kernel_events, first_failing}
use Rattle.cg_faults.specs.Rule.{Test, rule, type_limit}
use Rattle.cg_faults_laws.proofs.Occurring.{kernels_are_accepted_or_at_fault}
use Rattle.cg_heap.specs.declared.cell.Scalar.{Scalar}
use Rattle.cg_base.specs.declared.kind.Sigil.TheVariants.{W}
use Rattle.cg_base.specs.Types.{Tau}
use Rattle.cg_heap.specs.Calls.{heap_of}
use Rattle.cg_heap.specs.Reps.{foot}
use Rattle.cg_heap.specs.Stored.{Stored}
use Rattle.cg_heaptext.specs.Answers.{IsFault}
use Rattle.cg_heaptext.specs.declared.fault.HeapFault.{HeapFault}
use Rattle.cg_heaptext.specs.declared.fault.HeapFault.TheVariants.{H1, H2, H3, H4, H5, H6, H7, Memory}
use Rattle.cg_heaptext_def.specs.HeapText.{Fault, IsFaulty, IsNoHeap, absent, aliased, large, misfits, over, second}
use Rattle.cg_heaptext_fault_laws.proofs.Cuts.{cut_is_no_text, one_cut}
use Rattle.cg_heaptext_fault_laws.proofs.Faults.{fault_is_no_text, one_fault as one_fault_of, one_text as one_text_of}
use Rattle.cg_core_def.specs.Lawful.{IsLawfulKernel}
use Rattle.cg_cgen_def.specs.Names.{function_name}
use Rattle.cg_resolve_names.specs.Says.{IsFirst}
use Rattle.cg_parser.specs.Answers.{NoProgram, Answers as Parses}
use Rattle.cg_parser.specs.declared.fault.ParseFault.{ParseFault}
use Rattle.cg_parser.specs.declared.fault.ParseFault.TheVariants.{S1, S2, S3, S4, Memory as NoMemory}
use Rattle.cg_parser.proofs.One.{one_program}
use Rattle.cg_parser.proofs.Same.{one_answer as one_reading}
use Rattle.cg_resolve.specs.Answers.{IsCircleAt}
use Rattle.cg_cmachine_def.specs.Runs.{Linked, crun}
use Rattle.cg_driver_steps.specs.declared.status.Status.{Status}
use Rattle.cg_driver_steps.specs.declared.status.Status.TheVariants.{Refused, Usage, StepLimit, HeapRefused, CertRefused, TooLarge}
use Rattle.cg_driver_steps.specs.Steps.{Outcome, refuses, goes}
use Rattle.cg_driver_steps.specs.Scripts.{IsRuling}
use Rattle.cg_surface.specs.declared.program.Program.{Program}
use Rattle.cg_surface.specs.Programs.{Entry}
use Rattle.cg_typing.specs.Accepted.{IsAcceptedKernel}
use Rattle.cg_value.specs.Foreign.{Foreign}
use Rattle.cg_value.specs.Values.{Val, function}
use Rattle.cg_driver_words.specs.Words.{Command, check, build, gen, recheck, run}
use Rattle.cg_driver.specs.Commands.{Judgement, no_command, within, spelled, named, acyclic, with_fields, typed, written, certified, instanced, certifiable, has_entry, allowed, concrete, has_argument, evaluated, HoldsArgument, RefusesHeap, RefusesSyntax, unknown_byte, open_comment, unexpected, wrong_bar, RefusesTyping, RefusesType, Judges, script_of}
use Rattle.cg_driver.specs.Entered.{argument_type, result_type}
use Rattle.cg_driver.specs.Externs.{Extern, linked_in}
use Rattle.cg_driver.specs.Found.{Argument, Found, with_program, with_copies, with_cert, with_entry, with_argument, with_value, functions}
use Rattle.cg_driver_lines.specs.Lines.{fault_line, name_rule, rule_line, byte_line, heap_line, limit_line, report, run_lines}
use Rattle.cg_driver.specs.Instanced.{emitted}
use Rattle.cg_driver.specs.Run.{table_in, begun, budget, Evaluates, RunsOut, RunsTo, IsReport}
use Rattle.cg_driver.proofs.Certifying.{one_node, none_misfits, node_ruling, node_not_usage}
use Rattle.cg_driver.proofs.Cores.{one_list}
use Rattle.cg_driver.proofs.Ends.{end_same}
use Rattle.cg_driver.proofs.Kept.{equally_long}
use Rattle.cg_driver.proofs.Instancing.{not_passed, one_copies, one_passed}
use Rattle.cg_resolve.proofs.One.{no_first as no_name, same_place as first_take, no_place as no_take}

abbrev the_refusal : Status → List ℕ → Outcome Found
the_refusal s t = refuses s t

-- two refusals with one status and one text are one
refused_same : (s s' a : Status) (t t' : List ℕ) → s ≡ a → s' ≡ a → t ≡ t' → the_refusal s t ≡ the_refusal s' t'
refused_same s s' a t t' e e' same = ap (λ x. the_refusal x t) (e ∙ sym e') ∙ ap (the_refusal s') same

-- ---- faults of reading

-- the line of a fault of reading
abbrev line_of : List ℕ → ParseFault → List ℕ
line_of file (S1 place) = fault_line file place (codes "S1 unknown byte")
line_of file (S2 place) = fault_line file place (codes "S2 comment not closed")
line_of file (S3 place) = fault_line file place (codes "S3 unexpected token")
line_of file (S4 place) = fault_line file place (codes "S4 bar in no open match")
line_of file f = []

abbrev answer_of : ParseFault → Result Program ParseFault
answer_of f = Err f

record Misread (file source text : List ℕ) : Type 0 where
  fault : ParseFault
  parses : Parses source (Err fault)
  real : answer_of fault ≡ answer_of NoMemory → ⊥
  line : text ≡ line_of file fault
  none : NoProgram source

misread : (file source text : List ℕ) → RefusesSyntax file source text → Misread file source text
misread file source text (unknown_byte place found is) = record { fault = S1 place; parses = found; real = λ e. absurd (cc); line = is; none = found.4 }
misread file source text (open_comment place found is) = record { fault = S2 place; parses = found; real = λ e. absurd (cc); line = is; none = found.4 }
misread file source text (unexpected place found is) = record { fault = S3 place; parses = found; real = λ e. absurd (cc); line = is; none = found.4 }
misread file source text (wrong_bar place found is) = record { fault = S4 place; parses = found; real = λ e. absurd (cc); line = is; none = found.4 }

same_reading : (file source a b : List ℕ) → Misread file source a → Misread file source b → a ≡ b
same_reading file source a b x y = x.line ∙ ap (line_of file) (one_reading source (Err x.fault) (Err y.fault) x.parses y.parses x.real y.real) ∙ sym y.line

-- ---- faults of names

first_name : (f g : NameFault) (faults : List NameFault) → IsFirst f faults → IsFirst g faults → f ≡ g
first_name f g [] a b = absurd a
first_name f g (h ∷ faults) a b = sym a ∙ b

same_circle : (entries : List Entry) (p q : Place) → IsCircleAt entries p → IsCircleAt entries q → p ≡ q
same_circle entries p q is also =
    let before : also.0 < is.0 → ⊥ = λ lt. is.1.first also.0 lt also.1.circle in
    let behind : is.0 < also.0 → ⊥ = λ lt. also.1.first is.0 lt is.1.circle in
    let one : is.0 ≡ also.0 = omega (arith, before, behind) in
    let item : is.2.0 ≡ also.2.0 = same_Some is.2.0 also.2.0 (sym is.2.1 ∙ ap (slice_get entries) one ∙ also.2.1) in
    sym is.2.2 ∙ ap (λ e. (name_at e).place) item ∙ also.2.2

-- ---- faults of typing

-- of a lawful kernel that is accepted within the limits nothing fails
none_fails : (fs : List Function) (test : Test) (place : Place) → IsLawfulKernel fs → Fails fs test place → IsAcceptedKernel fs → AreTypesWithin fs → ⊥
none_fails fs test place lawful fails accepted narrow =
    let some : first_failing (kernel_events fs) ≡ Some (test, place) = (kernels_are_accepted_or_at_fault.fault fs lawful test place).1 fails in
    let none : first_failing (kernel_events fs) ≡ None = (kernels_are_accepted_or_at_fault.accepted fs lawful).1 (accepted, narrow) in
    absurd (cc)

rule_same : (r s : Rule) → rule r ≡ rule s → r ≡ s
rule_same r s e = cc

no_limit : (r : Rule) → rule r ≡ type_limit → ⊥
no_limit r e = absurd (cc)

same_typing : (file : List ℕ) (fs : List Function) (t t' : List ℕ) → RefusesTyping file fs t → RefusesTyping file fs t' → t ≡ t'
same_typing file fs t t' a b =
    let one = one_fault fs (rule a.broken) (rule b.broken) a.place b.place a.fails b.fails in
    a.line ∙ ap (λ p. fault_line file p (rule_line a.broken)) one.1 ∙ ap (λ r. fault_line file b.place (rule_line r)) (rule_same a.broken b.broken one.0) ∙ sym b.line

one_kind : (file : List ℕ) (fs : List Function) (t t' : List ℕ) → RefusesTyping file fs t → RefusesType fs t' → ⊥
one_kind file fs t t' a b = no_limit a.broken (one_fault fs (rule a.broken) type_limit a.place b.place a.fails b.fails).0

-- what `typed` says of functions that it refuses
abbrev Untyped : List ℕ → List Function → Status → List ℕ → Type 0
Untyped file fs s t = ((s ≡ Refused) × RefusesTyping file fs t) ⊎ ((s ≡ TooLarge) × RefusesType fs t)

one_untyped : (file : List ℕ) (fs : List Function) (s s' : Status) (t t' : List ℕ) → Untyped file fs s t → Untyped file fs s' t' → the_refusal s t ≡ the_refusal s' t'
one_untyped file fs s s' t t' (inl a) (inl b) = refused_same s s' Refused t t' a.0 b.0 (same_typing file fs t t' a.1 b.1)
one_untyped file fs s s' t t' (inl a) (inr b) = absurd (one_kind file fs t t' a.1 b.1)
one_untyped file fs s s' t t' (inr a) (inl b) = absurd (one_kind file fs t' t b.1 a.1)
one_untyped file fs s s' t t' (inr a) (inr b) = refused_same s s' TooLarge t t' a.0 b.0 (a.1.line ∙ sym b.1.line)

not_typed : (file : List ℕ) (fs : List Function) (s : Status) (t : List ℕ) → Untyped file fs s t → IsAcceptedKernel fs → AreTypesWithin fs → ⊥
not_typed file fs s t (inl a) accepted narrow = none_fails fs (rule a.1.broken) a.1.place a.1.lawful a.1.fails accepted narrow
not_typed file fs s t (inr a) accepted narrow = none_fails fs type_limit a.1.place a.1.lawful a.1.fails accepted narrow

-- ---- evaluation

record SameGiven (v w : Val) (k l : ℕ) : Type 0 where
  value : v ≡ w
  cost : k ≡ l

given_same : (v w : Val) (k l : ℕ) (o : Option (Val × ℕ)) → o ≡ Some (v, k) → o ≡ Some (w, l) → SameGiven v w k l
given_same v w k l o a b =
    let e : (v, k) ≡ (w, l) = same_Some (v, k) (w, l) (sym a ∙ b) in
    record { value = ap (λ p. p.0) e; cost = ap (λ p. p.1) e }

evaluates_once : (x : Foreign) (fs : List Function) (at : ℕ) (arg : Val) (steps : ℕ) (v : Val) (k : ℕ) (w : Val) (l : ℕ) → Evaluates x fs at arg steps v k → Evaluates x fs at arg steps w l → SameGiven v w k l
evaluates_once x fs at arg steps v k w l a b =
    let same : b.cores ≡ a.cores = one_list fs b.cores a.cores b.derived a.derived in
    given_same v w k l (evaluation (table_in x fs a.cores) steps (function (User at) []) arg) a.gives
    (subst (λ c. evaluation (table_in x fs c) steps (function (User at) []) arg ≡ Some (w, l)) same b.gives)

not_both : (x : Foreign) (fs : List Function) (at : ℕ) (arg : Val) (steps : ℕ) (v : Val) (k : ℕ) → Evaluates x fs at arg steps v k → RunsOut x fs at arg steps → ⊥
not_both x fs at arg steps v k a b =
    let same : b.cores ≡ a.cores = one_list fs b.cores a.cores b.derived a.derived in
    let none : evaluation (table_in x fs a.cores) steps (function (User at) []) arg ≡ None = subst (λ c. evaluation (table_in x fs c) steps (function (User at) []) arg ≡ None) same b.spent.none in
    let some : evaluation (table_in x fs a.cores) steps (function (User at) []) arg ≡ Some (v, k) = a.gives in
    absurd (cc)

-- ---- heap files

-- a fault is H1 on a line, or one of the others on a line
abbrev made : Fault → ℕ → HeapFault
made second line = H2 line
made absent line = H3 line
made misfits line = H4 line
made over line = H5 line
made aliased line = H6 line
made large line = H7 line

data Kind (bytes : List ℕ) (t : Tau) (f : HeapFault) : Type 0 where
  cut : (line : ℕ) → f ≡ H1 line → IsNoHeap bytes line → Kind bytes t f
  other : (fault : Fault) (line : ℕ) → f ≡ made fault line → IsFaulty bytes t fault line → Kind bytes t f

kind : (bytes : List ℕ) (t : Tau) (f : HeapFault) → IsFault bytes t f → Kind bytes t f
kind bytes t (H1 line) h = cut line refl h
kind bytes t (H2 line) h = other second line refl h
kind bytes t (H3 line) h = other absent line refl h
kind bytes t (H4 line) h = other misfits line refl h
kind bytes t (H5 line) h = other over line refl h
kind bytes t (H6 line) h = other aliased line refl h
kind bytes t (H7 line) h = other large line refl h
kind bytes t Memory h = absurd h

one_kind_of : (bytes : List ℕ) (t : Tau) (f g : HeapFault) → Kind bytes t f → Kind bytes t g → f ≡ g
one_kind_of bytes t f g (cut m e a) (cut n d b) = e ∙ ap H1 (one_cut bytes m n a b) ∙ sym d
one_kind_of bytes t f g (cut m e a) (other y n d b) = absurd (cut_is_no_text bytes m a b.heap b.spells)
one_kind_of bytes t f g (other x m e a) (cut n d b) = absurd (cut_is_no_text bytes n b a.heap a.spells)
one_kind_of bytes t f g (other x m e a) (other y n d b) =
    let one = one_fault_of bytes t x y m n a b in e ∙ ap (λ z. made z m) one.0 ∙ ap (made y) one.1 ∙ sym d

no_text_at : (bytes : List ℕ) (t : Tau) (f : HeapFault) (a : Argument) → Kind bytes t f → HoldsArgument bytes t a → ⊥
no_text_at bytes t f a (cut m e n) h = cut_is_no_text bytes m n h.heap h.spells
no_text_at bytes t f a (other x m e n) h = fault_is_no_text bytes t x m n a.cells a.scalars a.value h

same_heap_line : (heap bytes : List ℕ) (t : Tau) (s s' : List ℕ) → RefusesHeap heap bytes t s → RefusesHeap heap bytes t s' → s ≡ s'
same_heap_line heap bytes t s s' a b =
    a.line ∙ ap (heap_line heap) (one_kind_of bytes t a.fault b.fault (kind bytes t a.fault a.first) (kind bytes t b.fault b.first)) ∙ sym b.line

one_argument : (bytes : List ℕ) (t : Tau) (a b : Argument) → HoldsArgument bytes t a → HoldsArgument bytes t b → a ≡ b
one_argument bytes t a b h k =
    let one = one_text_of bytes t a.cells b.cells a.scalars b.scalars a.value b.value h k in
    λ i. record { cells = one.0 i; scalars = one.1 i; value = one.2 i }

-- ---- the judgements

pub single : (j : Judgement) (f : Found) (o o' : Outcome Found) → Judges j f o → Judges j f o' → o ≡ o'
single no_command f (refuses s t) (refuses s' t') d d' = refused_same s s' Usage t t' d.0 d'.0 (d.1 ∙ sym d'.1)
single no_command f (refuses s t) (goes n) d d' = absurd d'
single no_command f (goes n) o' d d' = absurd d
single (within limit) f (refuses s t) (refuses s' t') d d' = refused_same s s' TooLarge t t' d.0 d'.0 (d.1 ∙ sym d'.1)
single (within limit) f (refuses s t) (goes n) d d' = let x = d.2 in let y = d'.1 in absurd (omega (arith, x, y))
single (within limit) f (goes n) (refuses s t) d d' = let x = d'.2 in let y = d.1 in absurd (omega (arith, x, y))
single (within limit) f (goes n) (goes n') d d' = ap goes (d.0 ∙ sym d'.0)
single (spelled file) f (refuses s t) (refuses s' t') d d' =
    refused_same s s' Refused t t' d.0 d'.0 (same_reading file f.source t t' (misread file f.source t d.1) (misread file f.source t' d'.1))
single (spelled file) f (refuses s t) (goes n) d d' = absurd ((misread file f.source t d.1).none d'.0 d'.2)
single (spelled file) f (goes n) (refuses s t) d d' = absurd ((misread file f.source t d'.1).none d.0 d.2)
single (spelled file) f (goes n) (goes n') d d' = ap goes (d.1 ∙ ap (λ p. with_program p f) (one_program f.source d.0 d'.0 d.2 d'.2) ∙ sym d'.1)
single (named file) f (refuses s t) (refuses s' t') d d' =
    refused_same s s' Refused t t' d.0 d'.0 (d.1.line ∙ ap (name_rule file) (first_name d.1.fault d'.1.fault (program_faults f.program) d.1.first d'.1.first) ∙ sym d'.1.line)
single (named file) f (refuses s t) (goes n) d d' = absurd (no_name d.1.fault (program_faults f.program) d.1.first d'.1)
single (named file) f (goes n) (refuses s t) d d' = absurd (no_name d'.1.fault (program_faults f.program) d'.1.first d.1)
single (named file) f (goes n) (goes n') d d' = ap goes (d.0 ∙ sym d'.0)
single (acyclic file) f (refuses s t) (refuses s' t') d d' =
    refused_same s s' Refused t t' d.0 d'.0 (d.1.line ∙ ap (λ p. fault_line file p (codes "N3 circle of mentions")) (same_circle f.program d.1.place d'.1.place d.1.first d'.1.first) ∙ sym d'.1.line)
single (acyclic file) f (refuses s t) (goes n) d d' = absurd (d'.1 d.1.first.0 d.1.first.1.circle)
single (acyclic file) f (goes n) (refuses s t) d d' = absurd (d.1 d'.1.first.0 d'.1.first.1.circle)
single (acyclic file) f (goes n) (goes n') d d' = ap goes (d.0 ∙ sym d'.0)
single (with_fields file) f (refuses s t) (refuses s' t') d d' =
    refused_same s s' Refused t t' d.0 d'.0 (d.1.line ∙ ap (λ p. fault_line file p (codes "N5 take of no field")) (first_take d.1.place d'.1.place _ d.1.first d'.1.first) ∙ sym d'.1.line)
single (with_fields file) f (refuses s t) (goes n) d d' = absurd (no_take d.1.place _ d.1.first d'.1)
single (with_fields file) f (goes n) (refuses s t) d d' = absurd (no_take d'.1.place _ d'.1.first d.1)
single (with_fields file) f (goes n) (goes n') d d' = ap goes (d.0 ∙ sym d'.0)
single (typed file) f (refuses s t) (refuses s' t') d d' = one_untyped file (functions f) s s' t t' d d'
single (typed file) f (refuses s t) (goes n) d d' = absurd (not_typed file (functions f) s t d d'.1 d'.2)
single (typed file) f (goes n) (refuses s t) d d' = absurd (not_typed file (functions f) s t d' d.1 d.2)
single (typed file) f (goes n) (goes n') d d' = ap goes (d.0 ∙ sym d'.0)
single (written file) f (refuses s t) (refuses s' t') d d' =
    refused_same s s' CertRefused t t' d.1 d'.1 (d.2 ∙ ap (byte_line file) (one_byte f.certificate d.0 d'.0 d.3 d'.3) ∙ sym d'.2)
single (written file) f (refuses s t) (goes n) d d' = absurd (no_byte f.certificate d'.0 d.0 d'.2 d.3)
single (written file) f (goes n) (refuses s t) d d' = absurd (no_byte f.certificate d.0 d'.0 d.2 d'.3)
single (written file) f (goes n) (goes n') d d' = ap goes (d.1 ∙ ap (λ c. with_cert c f) (one_certificate f.certificate d.0 d'.0 d.2 d'.2) ∙ sym d'.1)
single (certified file) f (refuses s t) (refuses s' t') d d' = one_node file (functions f) f.cert s s' t t' d.1 d'.1
single (certified file) f (refuses s t) (goes n) d d' = absurd (none_misfits file (functions f) f.cert s t d.0 d.1 d'.1 d'.2)
single (certified file) f (goes n) (refuses s t) d d' = absurd (none_misfits file (functions f) f.cert s t d'.0 d'.1 d.1 d.2)
single (certified file) f (goes n) (goes n') d d' = ap goes (d.0 ∙ sym d'.0)
single instanced f (refuses s t) (refuses s' t') d d' = refused_same s s' TooLarge t t' d.0 d'.0 (one_passed (functions f) t t' d.1 d'.1)
single instanced f (refuses s t) (goes n) d d' = absurd (not_passed (functions f) t d'.0 d'.2 d.1)
single instanced f (goes n) (refuses s t) d d' = absurd (not_passed (functions f) t d.0 d.2 d'.1)
single instanced f (goes n) (goes n') d d' = ap goes (d.1 ∙ ap (λ c. with_copies c f) (one_copies (functions f) d.0 d'.0 d.2 d'.2) ∙ sym d'.1)
single certifiable f (refuses s t) (refuses s' t') d d' = refused_same s s' TooLarge t t' d.0 d'.0 (d.1 ∙ sym d'.1)
single certifiable f (refuses s t) (goes n) d d' = let x = d.2 in let y = d'.1 in absurd (omega (arith, x, y))
single certifiable f (goes n) (refuses s t) d d' = let x = d'.2 in let y = d.1 in absurd (omega (arith, x, y))
single certifiable f (goes n) (goes n') d d' = ap goes (d.0 ∙ sym d'.0)
single (has_entry file name) f (refuses s t) (refuses s' t') d d' = refused_same s s' Refused t t' d.0 d'.0 (d.1 ∙ sym d'.1)
single (has_entry file name) f (refuses s t) (goes n) d d' = let x = d.2 in let y = d'.2 in absurd (cc)
single (has_entry file name) f (goes n) (refuses s t) d d' = let x = d'.2 in let y = d.2 in absurd (cc)
single (has_entry file name) f (goes n) (goes n') d d' = ap goes (d.1 ∙ ap (λ at. with_entry at f) (same_Some d.0 d'.0 (sym d.2 ∙ d'.2)) ∙ sym d'.1)
single (allowed file) f (refuses s t) (refuses s' t') d d' = refused_same s s' Refused t t' d.0 d'.0 (d.1 ∙ sym d'.1)
single (allowed file) f (refuses s t) (goes n) d d' = let x = d.2 in let y = d'.1 in absurd (cc)
single (allowed file) f (goes n) (refuses s t) d d' = let x = d'.2 in let y = d.1 in absurd (cc)
single (allowed file) f (goes n) (goes n') d d' = ap goes (d.0 ∙ sym d'.0)
single (concrete file) f (refuses s t) (refuses s' t') d d' = refused_same s s' Refused t t' d.0 d'.0 (d.1 ∙ sym d'.1)
single (concrete file) f (refuses s t) (goes n) d d' = absurd (d'.1 d.2)
single (concrete file) f (goes n) (refuses s t) d d' = absurd (d.1 d'.2)
single (concrete file) f (goes n) (goes n') d d' = ap goes (d.0 ∙ sym d'.0)
single (has_argument heap) f (refuses s t) (refuses s' t') d d' =
    refused_same s s' HeapRefused t t' d.0 d'.0 (same_heap_line heap f.heap (argument_type (functions f) f.at) t t' d.1 d'.1)
single (has_argument heap) f (refuses s t) (goes n) d d' =
    absurd (no_text_at f.heap (argument_type (functions f) f.at) d.1.fault d'.0 (kind f.heap (argument_type (functions f) f.at) d.1.fault d.1.first) d'.2)
single (has_argument heap) f (goes n) (refuses s t) d d' =
    absurd (no_text_at f.heap (argument_type (functions f) f.at) d'.1.fault d.0 (kind f.heap (argument_type (functions f) f.at) d'.1.fault d'.1.first) d.2)
single (has_argument heap) f (goes n) (goes n') d d' =
    ap goes (d.1 ∙ ap (λ a. with_argument a f) (one_argument f.heap (argument_type (functions f) f.at) d.0 d'.0 d.2 d'.2) ∙ sym d'.1)
single (evaluated x steps) f (refuses s t) (refuses s' t') d d' = refused_same s s' StepLimit t t' d.0 d'.0 (d.1 ∙ sym d'.1)
single (evaluated x steps) f (refuses s t) (goes n) d d' = absurd (not_both x (functions f) f.at f.argument.value steps d'.0 d'.1 d'.3 d.2)
single (evaluated x steps) f (goes n) (refuses s t) d d' = absurd (not_both x (functions f) f.at f.argument.value steps d.0 d.1 d.3 d'.2)
single (evaluated x steps) f (goes n) (goes n') d d' =
    let e = evaluates_once x (functions f) f.at f.argument.value steps d.0 d.1 d'.0 d'.1 d.3 d'.3 in
    ap goes (d.2 ∙ ap (λ v. with_value v d.1 f) e.value ∙ ap (λ k. with_value d'.0 k f) e.cost ∙ sym d'.2)

-- of lawful functions the rules decide
pub typing_decides : (file : List ℕ) (f : Found) → IsLawfulKernel (functions f) → (o : Outcome Found) × Judges (typed file) f o
typing_decides file f lawful = go (first_failing (kernel_events (functions f))) refl
  where
    fault : (test : Test) (place : Place) → first_failing (kernel_events (functions f)) ≡ Some (test, place) → Fails (functions f) test place
    fault test place is = (kernels_are_accepted_or_at_fault.fault (functions f) lawful test place).0 is

    go : (first : Option (Test × Place)) → first_failing (kernel_events (functions f)) ≡ first → (o : Outcome Found) × Judges (typed file) f o
    go None is = let a = (kernels_are_accepted_or_at_fault.accepted (functions f) lawful).0 is in (goes f, (refl, a.0, a.1))
    go (Some (rule r, place)) is =
        (refuses Refused (fault_line file place (rule_line r)), inl (refl, record { lawful = lawful; broken = r; place = place; fails = fault (rule r) place is; line = refl }))
    go (Some (type_limit, place)) is =
        (refuses TooLarge (limit_line (codes "type")), inr (refl, record { lawful = lawful; place = place; fails = fault type_limit place is; line = refl }))

-- no judgement refuses with a status of a fault or of want of memory
pub ruling : (j : Judgement) (f : Found) (s : Status) (t : List ℕ) → Judges j f (refuses s t) → IsRuling s
ruling no_command f s t d = subst IsRuling (sym d.0) tt
ruling (within limit) f s t d = subst IsRuling (sym d.0) tt
ruling (spelled file) f s t d = subst IsRuling (sym d.0) tt
ruling (named file) f s t d = subst IsRuling (sym d.0) tt
ruling (acyclic file) f s t d = subst IsRuling (sym d.0) tt
ruling (with_fields file) f s t d = subst IsRuling (sym d.0) tt
ruling (typed file) f s t (inl d) = subst IsRuling (sym d.0) tt
ruling (typed file) f s t (inr d) = subst IsRuling (sym d.0) tt
ruling (written file) f s t d = subst IsRuling (sym d.1) tt
ruling (certified file) f s t d = node_ruling file (functions f) f.cert s t d.1
ruling instanced f s t d = subst IsRuling (sym d.0) tt
ruling certifiable f s t d = subst IsRuling (sym d.0) tt
ruling (has_entry file name) f s t d = subst IsRuling (sym d.0) tt
ruling (allowed file) f s t d = subst IsRuling (sym d.0) tt
ruling (concrete file) f s t d = subst IsRuling (sym d.0) tt
ruling (has_argument heap) f s t d = subst IsRuling (sym d.0) tt
ruling (evaluated x steps) f s t d = subst IsRuling (sym d.0) tt

-- only words that are no command are answered with the usage text
abbrev pub IsOfCommand : Judgement → Type 0
IsOfCommand no_command = ⊥
IsOfCommand j = Unit {0}

abbrev pub IsNotUsage : Status → Type 0
IsNotUsage s = s ≡ Usage → ⊥

pub not_usage : (j : Judgement) (f : Found) (s : Status) (t : List ℕ) → IsOfCommand j → Judges j f (refuses s t) → IsNotUsage s
not_usage no_command f s t of d = absurd of
not_usage (within limit) f s t of d = λ e. let x = d.0 in absurd (cc)
not_usage (spelled file) f s t of d = λ e. let x = d.0 in absurd (cc)
not_usage (named file) f s t of d = λ e. let x = d.0 in absurd (cc)
not_usage (acyclic file) f s t of d = λ e. let x = d.0 in absurd (cc)
not_usage (with_fields file) f s t of d = λ e. let x = d.0 in absurd (cc)
not_usage (typed file) f s t of (inl d) = λ e. let x = d.0 in absurd (cc)
not_usage (typed file) f s t of (inr d) = λ e. let x = d.0 in absurd (cc)
not_usage (written file) f s t of d = λ e. let x = d.1 in absurd (cc)
not_usage (certified file) f s t of d = node_not_usage file (functions f) f.cert s t d.1
not_usage instanced f s t of d = λ e. let x = d.0 in absurd (cc)
not_usage certifiable f s t of d = λ e. let x = d.0 in absurd (cc)
not_usage (has_entry file name) f s t of d = λ e. let x = d.0 in absurd (cc)
not_usage (allowed file) f s t of d = λ e. let x = d.0 in absurd (cc)
not_usage (concrete file) f s t of d = λ e. let x = d.0 in absurd (cc)
not_usage (has_argument heap) f s t of d = λ e. let x = d.0 in absurd (cc)
not_usage (evaluated x steps) f s t of d = λ e. let x = d.0 in absurd (cc)

-- ---- what is printed at status 0

record SameRun (n n' : ℕ) (ms ms' fs fs' ks ks' : List ℕ) : Type 0 where
  taken : n ≡ n'
  made : ms ≡ ms'
  freed : fs ≡ fs'
  kept : length ks ≡ length ks'

-- two runs from one heap tell the same
run_same : (linked : Linked) (name : List ℕ) (us : List Scalar) (m : Stored) (most : ℕ) (t : Tau) (v w : Val) (taken taken' : ℕ) (made freed kept made' freed' kept' : List ℕ)
    → RunsTo linked name us m most t v taken made freed kept → RunsTo linked name us m most t w taken' made' freed' kept' → SameRun taken taken' made made' freed freed' kept kept'
run_same linked name us m most t v w taken taken' made freed kept made' freed' kept' a b =
    let e = end_same a.given b.given a.state b.state a.left b.left (crun linked most name us m) a.ends b.ends in
    let left = e.left in
    let x = a.counted in
    let y = b.counted in
    record {
      taken = omega (arith, left, x, y);
      made = a.are_made ∙ ap (λ s. s.made) e.state ∙ sym b.are_made;
      freed = a.are_freed ∙ ap (λ s. s.freed) e.state ∙ sym b.are_freed;
      kept = equally_long kept kept' (λ q. a.are_kept q ∙ a.represents.are_writes q ∙ ap (λ s. foot (heap_of s.store) W t a.given q) e.state ∙ ap (λ vs. foot (heap_of b.state.store) W t vs q) e.given
          ∙ sym (b.represents.are_writes q) ∙ sym (b.are_kept q));
    }

lines_same : (t : Tau) (value v w : Val) (cost taken taken' : ℕ) (made made' freed freed' kept kept' : List ℕ) → v ≡ w → SameRun taken taken' made made' freed freed' kept kept'
    → report t value v cost taken made freed kept ≡ report t value w cost taken' made' freed' kept'
lines_same t value v w cost taken taken' made made' freed freed' kept kept' e r =
    λ i. run_lines t value (e i) cost (r.taken i) (length (r.made i)) (length (r.freed i)) (r.kept i)

report_once : (table : Extern) (fs : List Function) (copies : List Copy) (at : ℕ) (t : Tau) (arg : Argument) (value : Val) (cost : ℕ) (s s' : List ℕ) → IsReport table fs copies at t arg value cost s → IsReport table fs copies at t arg value cost s' → s ≡ s'
report_once table fs copies at t arg value cost s s' a b =
    let program : b.program ≡ a.program = one_text (emitted copies) b.program a.program b.spelled a.spelled in
    let place : b.place ≡ a.place = same_Some b.place a.place (sym b.stands ∙ a.stands) in
    let runs : RunsTo (linked_in table fs copies a.program) (function_name a.place) arg.scalars (begun arg) (budget cost) t b.result b.taken b.made b.freed b.kept =
    subst (λ p. RunsTo (linked_in table fs copies p) (function_name a.place) arg.scalars (begun arg) (budget cost) t b.result b.taken b.made b.freed b.kept) program
    (subst (λ k. RunsTo (linked_in table fs copies b.program) (function_name k) arg.scalars (begun arg) (budget cost) t b.result b.taken b.made b.freed b.kept) place b.runs) in
    a.lines
    ∙ lines_same t value a.result b.result cost a.taken b.taken a.made b.made a.freed b.freed a.kept b.kept (a.equal ∙ sym b.equal)
    (run_same (linked_in table fs copies a.program) (function_name a.place) arg.scalars (begun arg) (budget cost) t a.result b.result a.taken b.taken a.made a.freed a.kept b.made b.freed b.kept a.runs runs)
    ∙ sym b.lines

pub once : (table : Extern) (c : Option Command) (f : Found) (t t' : List ℕ) → (script_of table c).line f t → (script_of table c).line f t' → t ≡ t'
once table None f t t' a b = absurd a
once table (Some (check file)) f t t' a b = a ∙ sym b
once table (Some (build file text certificate)) f t t' a b = a.0 ∙ sym b.0
once table (Some (recheck file certificate)) f t t' a b = a ∙ sym b
once table (Some (run file entry heap steps)) f t t' a b = report_once table (functions f) f.copies f.at (result_type (functions f) f.at) f.argument f.value f.cost t t' a b
once table (Some (gen n)) f t t' a b =
    let line : a.line ≡ b.line = a.built.0 ∙ sym b.built.0 in
    let lines = report_once table (functions f) f.copies f.at (result_type (functions f) f.at) f.argument f.value f.cost a.lines b.lines a.ran b.ran in
    a.text_is ∙ ap₂ (λ x y. x ++ y) line lines ∙ sym b.text_is
