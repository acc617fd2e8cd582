-- What clap is told of the command line.
use Rattle.std.specs.Prelude.{codes, true, Some, List, [], ◌∷◌, map}
use Rattle.clap.specs.Words.{App, Rule, Text, new_app, new_rule, with_rule, with_subcommand}

-- a name that has to be given
abbrev pub name_rule : Text → Rule
name_rule id = record (new_rule id) { required = true }

-- the option `--steps`
abbrev pub steps_rule : Rule
steps_rule = record (new_rule (codes "steps")) { long = Some (codes "steps") }

-- a command with these names, in their order
abbrev pub named : Text → List Text → App
named word ids = record (new_app word) { top = record (new_app word).top { rules = map name_rule ids } }

abbrev pub check_app : App
check_app = named (codes "check") (codes "file" ∷ [])

abbrev pub build_app : App
build_app = named (codes "build") (codes "file" ∷ codes "text" ∷ codes "certificate" ∷ [])

abbrev pub recheck_app : App
recheck_app = named (codes "recheck") (codes "file" ∷ codes "certificate" ∷ [])

abbrev pub run_app : App
run_app = with_rule (named (codes "run") (codes "file" ∷ codes "entry" ∷ codes "heap" ∷ [])) steps_rule

abbrev pub gen_app : App
gen_app = named (codes "gen") (codes "number" ∷ [])

-- the whole command line, without its commands: it has no help and no version of clap's
abbrev pub bare_app : App
bare_app = record (new_app (codes "cogent")) {
  top = record (new_app (codes "cogent")).top {
    no_binary_name = true;
    disable_help_flag = true;
    disable_help_subcommand = true;
    disable_version_flag = true;
    subcommand_required = true;
  };
}

-- with its commands on a source alone, with those on files, and with all
abbrev pub source_app : App
source_app = with_subcommand (with_subcommand bare_app check_app.top) build_app.top

abbrev pub file_app : App
file_app = with_subcommand (with_subcommand source_app recheck_app.top) run_app.top

abbrev pub cogent_app : App
cogent_app = with_subcommand file_app gen_app.top
