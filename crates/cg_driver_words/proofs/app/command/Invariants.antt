use Rattle.std.proofs.Common.{◌≡◌, false, map, take}
use Rattle.clap.specs.Words.{app_of}
use Rattle.clap.specs.declared.builder.command.Command.TheViews.{out-Command as fields_of}
use Rattle.cg_driver_words.specs.Apps.{named}
use Rattle.cg_driver_words.proofs.app.command.Given as goal

abbrev pub invariant-loop-id : goal.invariant-loop-id
invariant-loop-id l = record {
  app : app_of l.command ≡ named l.word (map (λ n. n.now) (take l.id-index l.names));
  globals : (fields_of l.command).has_globals ≡ false;
}
