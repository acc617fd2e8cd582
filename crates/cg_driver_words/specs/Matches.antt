-- The command that clap's matches give.
use Rattle.std.specs.Prelude.{List, [], Option, Some, None, codes, if◌then◌else◌, option_map}
use Rattle.std.specs.Str.{bytes_eq}
use Rattle.clap.specs.Words.{Kinds, Row, Text, first_of}
use Rattle.cg_driver_words.specs.Words.{Command, check, gen, recheck, run, build_apart, default_steps, most_made, number_in, steps_in}

-- `build`, by the names
abbrev pub build_by : Option Text → Option Text → Option Text → Option Command
build_by (Some file) (Some text) (Some certificate) = build_apart file text certificate
build_by _ _ _ = None

-- `recheck`, by the names
abbrev pub recheck_by : Option Text → Option Text → Option Command
recheck_by (Some file) (Some certificate) = Some (recheck file certificate)
recheck_by _ _ = None

-- `run`, by the names and the value of `--steps`
abbrev pub run_by : Option Text → Option Text → Option Text → Option Text → Option Command
run_by (Some file) (Some entry) (Some heap) None = Some (run file entry heap default_steps)
run_by (Some file) (Some entry) (Some heap) (Some steps) = option_map (run file entry heap) (steps_in steps)
run_by _ _ _ _ = None

-- `gen`, by the number
abbrev pub gen_by : Option Text → Option Command
gen_by None = None
gen_by (Some number) = option_map gen (number_in most_made number)

abbrev pub check_in : List Row → Option Command
check_in rows = option_map check (first_of (codes "file") rows)

abbrev pub build_in : List Row → Option Command
build_in rows = build_by (first_of (codes "file") rows) (first_of (codes "text") rows) (first_of (codes "certificate") rows)

abbrev pub recheck_in : List Row → Option Command
recheck_in rows = recheck_by (first_of (codes "file") rows) (first_of (codes "certificate") rows)

abbrev pub run_in : List Row → Option Command
run_in rows = run_by (first_of (codes "file") rows) (first_of (codes "entry") rows) (first_of (codes "heap") rows) (first_of (codes "steps") rows)

abbrev pub gen_in : List Row → Option Command
gen_in rows = gen_by (first_of (codes "number") rows)

-- the matches of the command with this name
abbrev pub command_in : Text → List Row → Option Command
command_in name rows =
    if bytes_eq name (codes "check") then check_in rows
    else if bytes_eq name (codes "build") then build_in rows
    else if bytes_eq name (codes "recheck") then recheck_in rows
    else if bytes_eq name (codes "run") then run_in rows
    else gen_in rows

-- what clap's answer calls for, by the faults that it finds and the subcommand that it enters
abbrev pub command_from : Kinds → Option (Text × List Row) → Option Command
command_from [] (Some p) = command_in p.0 p.1
command_from _ _ = None
