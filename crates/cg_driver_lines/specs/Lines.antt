-- The lines that are printed (docs/LANGUAGE.md, "Commands").
use Rattle.std.specs.Prelude.{ℕ, List, [], ◌++◌, codes, count_by, decimal, is_some, length, ⊤}
use Rattle.cg_base.specs.declared.limit.Limit.{Limit}
use Rattle.cg_base.specs.declared.limit.Limit.TheVariants.{Source, Nesting, Functions, Fields, Ty, Depth, Instances, Core, Heap, Certificate}
use Rattle.cg_base.specs.declared.place.Place.{Place}
use Rattle.cg_base.specs.Types.{Tau}
use Rattle.cg_core.specs.Kernels.{Function}
use Rattle.cg_resolve_def.specs.Faults.{NameFault, unknown, twice, arguments}
use Rattle.cg_faults.specs.declared.rule.Rule.{Rule}
use Rattle.cg_faults.specs.declared.rule.Rule.TheVariants.{K1, K2, K3, K4, K5, K6, K7, T1, T2, T3, T4, T5, T6, T7, T8, T9, T10, T11, T12, T13, T14}
use Rattle.cg_faults.specs.Rule.{text_of}
use Rattle.cg_heaptext.specs.declared.fault.HeapFault.{HeapFault}
use Rattle.cg_heaptext.specs.declared.fault.HeapFault.TheVariants.{H1, H2, H3, H4, H5, H6, H7, Memory}
use Rattle.cg_value.specs.Printed.{printed}
use Rattle.cg_value.specs.Values.{Val}

-- the usage text
abbrev pub usage_text : List ℕ
usage_text = codes "usage: cogent check FILE\n       cogent build FILE CFILE CERTFILE\n       cogent recheck FILE CERTFILE\n       cogent run FILE ENTRY HEAPFILE [--steps N]\n       cogent gen N\n"

-- what `check` prints of an accepted source: how many functions have a definition
abbrev pub ok_line : List Function → List ℕ
ok_line functions = codes "ok: " ++ decimal (count_by (λ f. is_some f.body) functions) ++ codes " functions\n"

-- what `build` prints of a source that is written: how many functions have a definition, and how many instances there are
abbrev pub built_line : List Function → ℕ → List ℕ
built_line functions instances = codes "ok: " ++ decimal (count_by (λ f. is_some f.body) functions) ++ codes " functions, " ++ decimal instances ++ codes " instances\n"

-- the refusal of a source at a place, by a rule with its text (docs/LANGUAGE.md, "Faults of reading")
abbrev pub fault_line : List ℕ → Place → List ℕ → List ℕ
fault_line file place rule = file ++ codes ":" ++ decimal place.line ++ codes ":" ++ decimal place.column ++ codes ": " ++ rule ++ codes "\n"

-- the line of a fault N1, N2 or N4
abbrev pub name_rule : List ℕ → NameFault → List ℕ
name_rule file (unknown place) = fault_line file place (codes "N1 unknown name")
name_rule file (twice place) = fault_line file place (codes "N2 name defined twice")
name_rule file (arguments place) = fault_line file place (codes "N4 wrong number of type arguments")

-- the name of a rule of kinds or types (docs/LANGUAGE.md, "Typing"), and its name with its text
abbrev pub rule_name : Rule → List ℕ
rule_name K1 = codes "K1"
rule_name K2 = codes "K2"
rule_name K3 = codes "K3"
rule_name K4 = codes "K4"
rule_name K5 = codes "K5"
rule_name K6 = codes "K6"
rule_name K7 = codes "K7"
rule_name T1 = codes "T1"
rule_name T2 = codes "T2"
rule_name T3 = codes "T3"
rule_name T4 = codes "T4"
rule_name T5 = codes "T5"
rule_name T6 = codes "T6"
rule_name T7 = codes "T7"
rule_name T8 = codes "T8"
rule_name T9 = codes "T9"
rule_name T10 = codes "T10"
rule_name T11 = codes "T11"
rule_name T12 = codes "T12"
rule_name T13 = codes "T13"
rule_name T14 = codes "T14"

abbrev pub rule_line : Rule → List ℕ
rule_line r = rule_name r ++ codes " " ++ text_of r

-- what `recheck` prints of a certificate that spells a derivation
abbrev pub rechecked_line : List ℕ
rechecked_line = codes "ok\n"

-- the refusals of a certificate: at a byte of its text, and at a node by a rule
abbrev pub byte_line : List ℕ → ℕ → List ℕ
byte_line certificate byte = certificate ++ codes ": C1 at byte " ++ decimal byte ++ codes "\n"

abbrev pub node_line : List ℕ → List ℕ → ℕ → List ℕ
node_line certificate rule node = certificate ++ codes ": " ++ rule ++ codes " at node " ++ decimal node ++ codes "\n"

-- the refusals, with the name of the file
abbrev pub no_entry_line : List ℕ → List ℕ
no_entry_line file = file ++ codes ": E1 no such function\n"

abbrev pub entry_type_line : List ℕ → List ℕ
entry_type_line file = file ++ codes ": E2 entry type not allowed\n"

abbrev pub abstract_line : List ℕ → List ℕ
abstract_line file = file ++ codes ": M1 abstract function reached\n"

-- the refusal of a heap file on a line, by a rule with its text (docs/LANGUAGE.md, "Heap files"); want of memory has no line
abbrev pub heap_rule : List ℕ → ℕ → List ℕ → List ℕ
heap_rule heap line rule = heap ++ codes ":" ++ decimal line ++ codes ": " ++ rule ++ codes "\n"

abbrev pub heap_line : List ℕ → HeapFault → List ℕ
heap_line heap (H1 line) = heap_rule heap line (codes "H1 not in the heap grammar")
heap_line heap (H2 line) = heap_rule heap line (codes "H2 address defined twice")
heap_line heap (H3 line) = heap_rule heap line (codes "H3 address is absent")
heap_line heap (H4 line) = heap_rule heap line (codes "H4 value does not fit its type")
heap_line heap (H5 line) = heap_rule heap line (codes "H5 number out of range")
heap_line heap (H6 line) = heap_rule heap line (codes "H6 writable cell reached twice")
heap_line heap (H7 line) = heap_rule heap line (codes "H7 too many cells or elements")
heap_line heap Memory = []

-- a fault of a heap file, and not want of memory
abbrev pub IsFaultOfFile : HeapFault → Type 0
IsFaultOfFile Memory = ⊥
IsFaultOfFile fault = ⊤

-- a limit, and the step limit
abbrev pub limit_line : List ℕ → List ℕ
limit_line name = codes "limit: " ++ name ++ codes "\n"

-- the name of a limit (docs/LANGUAGE.md, "Limits")
abbrev pub limit_name : Limit → List ℕ
limit_name Source = codes "source"
limit_name Nesting = codes "nesting"
limit_name Functions = codes "functions"
limit_name Fields = codes "fields"
limit_name Ty = codes "type"
limit_name Depth = codes "depth"
limit_name Instances = codes "instances"
limit_name Core = codes "core"
limit_name Heap = codes "heap"
limit_name Certificate = codes "certificate"

abbrev pub step_limit_line : ℕ → List ℕ
step_limit_line steps = codes "step limit " ++ decimal steps ++ codes " reached\n"

-- The seven lines of a run whose results have this type: what evaluation gives and what the C gives, what each costs, and how many cells were
-- made, freed and kept.
abbrev pub count_lines : ℕ → ℕ → ℕ → ℕ → ℕ → List ℕ
count_lines cost steps made freed kept =
    codes "\ncost: " ++ decimal cost ++ codes "\nsteps: " ++ decimal steps ++ codes "\nnew: " ++ decimal made ++ codes "\nfreed: " ++ decimal freed ++ codes "\nkept: " ++ decimal kept ++ codes "\n"

abbrev pub run_lines : Tau → Val → Val → ℕ → ℕ → ℕ → ℕ → ℕ → List ℕ
run_lines t value result cost steps made freed kept = codes "value: " ++ printed value t ++ codes "\nc: " ++ printed result t ++ count_lines cost steps made freed kept

abbrev pub report : Tau → Val → Val → ℕ → ℕ → List ℕ → List ℕ → List ℕ → List ℕ
report t value result cost steps made freed kept = run_lines t value result cost steps (length made) (length freed) (length kept)
