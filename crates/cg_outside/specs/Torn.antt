-- What torn files and outputs hold, and which of their calls fail, for clauses that see no field.
use Rattle.std.specs.Prelude.{ℕ, List, Bool, ◌||◌, is_none, is_some}
use Rattle.std.specs.declared.option.Option.{Option}
use Rattle.std.specs.FinMap.{get}
use Rattle.cg_outside.specs.Causes.{next_count}
use Rattle.cg_outside.specs.Cuts.{first_cut}
use Rattle.cg_outside.specs.Held.{Held}
use Rattle.cg_outside.specs.Entries.{held_of}
use Rattle.cg_outside.specs.Failures.{times}
use Rattle.cg_outside.specs.declared.torn.TornFiles.{TornFiles}
use Rattle.cg_outside.specs.declared.torn.TornSink.{TornSink}

-- what the files hold
abbrev pub torn_held : TornFiles → Held
torn_held files = held_of files.files.items

-- how many reads of each name have failed, and how many writes
abbrev pub torn_reads_of : TornFiles → List ℕ → ℕ
torn_reads_of files = times files.reads

abbrev pub torn_writes_of : TornFiles → List ℕ → ℕ
torn_writes_of files = times files.writes

-- how many calls there were, and the numbers of those that fail, each with so many bytes
abbrev pub torn_calls_of : TornFiles → ℕ
torn_calls_of files = files.calls

abbrev pub torn_failing_of : TornFiles → List (ℕ × ℕ)
torn_failing_of files = files.failing.items

-- after how many bytes the next call is torn, where it is
abbrev pub next_cut : TornFiles → Option ℕ
next_cut files = first_cut (next_count (torn_calls_of files)) (torn_failing_of files)

abbrev pub is_torn : TornFiles → Bool
is_torn files = is_some (next_cut files)

-- whether a read fails if it comes next: it is torn, or the name isn't held
abbrev pub read_is_torn : TornFiles → List ℕ → Bool
read_is_torn files name = is_torn files || is_none (get (torn_held files) name)

-- the bytes that the output took
abbrev pub torn_taken : TornSink → List ℕ
torn_taken sink = sink.bytes.items

-- how many calls have failed
abbrev pub torn_sink_faults_of : TornSink → ℕ
torn_sink_faults_of sink = sink.faults

-- how many calls there were, and the numbers of those that fail, each with so many bytes
abbrev pub torn_sink_calls_of : TornSink → ℕ
torn_sink_calls_of sink = sink.calls

abbrev pub torn_sink_failing_of : TornSink → List (ℕ × ℕ)
torn_sink_failing_of sink = sink.failing.items

-- after how many bytes the next call is torn, where it is
abbrev pub next_sink_cut : TornSink → Option ℕ
next_sink_cut sink = first_cut (next_count (torn_sink_calls_of sink)) (torn_sink_failing_of sink)

abbrev pub is_sink_torn : TornSink → Bool
is_sink_torn sink = is_some (next_sink_cut sink)
