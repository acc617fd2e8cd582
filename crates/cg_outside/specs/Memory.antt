-- What files and outputs in memory hold, and which of their calls fail, for clauses that see no field.
use Rattle.std.specs.Prelude.{ℕ, List, Bool, ◌||◌, is_none}
use Rattle.std.specs.FinMap.{get}
use Rattle.cg_outside.specs.Held.{Held}
use Rattle.cg_outside.specs.Entries.{held_of}
use Rattle.cg_outside.specs.Calls.{is_listed}
use Rattle.cg_outside.specs.Failures.{times}
use Rattle.cg_outside.specs.declared.memory.MemoryFiles.{MemoryFiles}
use Rattle.cg_outside.specs.declared.memory.MemorySink.{MemorySink}
use Rattle.cg_outside.specs.declared.honest.HonestFiles.{HonestFiles}
use Rattle.cg_outside.specs.declared.honest.HonestSink.{HonestSink}

-- what the files hold
abbrev pub memory_held : MemoryFiles → Held
memory_held files = held_of files.files.items

-- how many reads of each name have failed
abbrev pub failed_reads_of : MemoryFiles → List ℕ → ℕ
failed_reads_of files = times files.reads

-- how many writes of each name have failed
abbrev pub failed_writes_of : MemoryFiles → List ℕ → ℕ
failed_writes_of files = times files.writes

-- how many calls there were
abbrev pub calls_of : MemoryFiles → ℕ
calls_of files = files.calls

-- the numbers of the calls that are told to fail
abbrev pub failing_of : MemoryFiles → List ℕ
failing_of files = files.failing.items

-- whether the next call is told to fail
abbrev pub told_to_fail : MemoryFiles → Bool
told_to_fail files = is_listed (calls_of files) (failing_of files)

-- whether a read fails if it comes next: it is told to, or the name isn't held
abbrev pub read_fails : MemoryFiles → List ℕ → Bool
read_fails files name = told_to_fail files || is_none (get (memory_held files) name)

-- the bytes that the output took
abbrev pub memory_taken : MemorySink → List ℕ
memory_taken sink = sink.bytes.items

-- how many calls have failed
abbrev pub sink_faults_of : MemorySink → ℕ
sink_faults_of sink = sink.faults

-- how many calls there were
abbrev pub sink_calls_of : MemorySink → ℕ
sink_calls_of sink = sink.calls

-- the numbers of the calls that are told to fail
abbrev pub sink_failing_of : MemorySink → List ℕ
sink_failing_of sink = sink.failing.items

-- whether the next call is told to fail
abbrev pub sink_told_to_fail : MemorySink → Bool
sink_told_to_fail sink = is_listed (sink_calls_of sink) (sink_failing_of sink)

-- what the files that never fail hold
abbrev pub honest_held : HonestFiles → Held
honest_held files = held_of files.files.items

-- the bytes that the output that never fails took
abbrev pub honest_taken : HonestSink → List ℕ
honest_taken sink = sink.bytes.items
