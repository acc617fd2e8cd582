-- How files stand after each status of `build` (docs/LANGUAGE.md, "Commands").
use Rattle.std.specs.Prelude.{ℕ, List, Option, Some}
use Rattle.cg_driver.specs.Commands.{Judgement, Judges, built_rules, script_of}
use Rattle.cg_driver.specs.Externs.{Extern}
use Rattle.cg_driver.specs.Found.{Found, functions, nothing, source_limit, with_source}
use Rattle.cg_driver.specs.Instanced.{certified_text, emitted}
use Rattle.cg_driver_order_def.specs.Order.{Pair, IsInOrder}
use Rattle.cg_driver_steps.specs.declared.status.Status.{Status}
use Rattle.cg_driver_steps.specs.Scripts.{Answers}
use Rattle.cg_driver_steps.specs.World.{World}
use Rattle.cg_driver_words.specs.Words.{build}

-- `build` as such a command: it reads a source, goes by its rules, and writes the C text and the certificate
abbrev pub build_pair : List ℕ → List ℕ → List ℕ → Pair Judgement Found
build_pair file text certificate =
    record {
      file = file;
      limit = source_limit;
      keep = with_source;
      rules = built_rules file;
      first = text;
      first_text = λ f. emitted f.copies;
      second = certificate;
      second_text = λ f. certified_text (functions f);
    }

-- Whatever `build` answers, over any files and output, files stand as its status says.
abbrev pub BuildIsInOrder : Extern → Type 0
BuildIsInOrder table =
    (file text certificate : List ℕ) (old new : World) (taken taken' : Option (List ℕ)) (before now : ℕ) (status : Status)
    → Answers Judges (script_of table (Some (build file text certificate))) old new taken taken' before now status
    → IsInOrder Judges (build_pair file text certificate) nothing old.held new.held before now status
