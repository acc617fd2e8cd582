-- Tables of the positions of items by name, and lists of positions that names have in them.
use Rattle.std.specs.Prelude.{◌≡◌, ℕ, List, ◌++◌, Result, Ok, Err, IfOk, IsErr}
use Rattle.std.specs.Global.{Vec}
use Rattle.std.specs.BTreeMap.{BTreeMap}
use Rattle.std.specs.Option.{option_to_list}
use Rattle.cg_base.specs.declared.memory.Memory.{Memory}
use Rattle.cg_surface.specs.Programs.{Entry}
use Rattle.cg_resolve_def.specs.Mentions.{all_of, synonym_from, signature_from}
use Rattle.cg_resolve_declared.specs.Tables.{find}
use Rattle.cg_resolve_mentions.specs.declared.positions.Firsts.{Firsts}
use denote.Ref.{Bor}

-- the position that a name has in a table, where it has one
abbrev pub found_in : BTreeMap (Bor (List ℕ)) ℕ → List ℕ → List ℕ
found_in table name = option_to_list (find table name)

-- positions, and behind them those of names
unfoldable pub pushed : BTreeMap (Bor (List ℕ)) ℕ → List ℕ → List (List ℕ) → List ℕ
pushed table targets names = targets ++ all_of (found_in table) names

-- positions, where there was memory for them, and behind them those of names; where it was wanting, it stays so
abbrev pub GoesOn : BTreeMap (Bor (List ℕ)) ℕ → Result (Vec ℕ) Memory → List (List ℕ) → Result (Vec ℕ) Memory → Type 0
GoesOn table (Ok targets) names result = IfOk result (λ after. after.items ≡ pushed table targets.items names)
GoesOn table (Err memory) names result = IsErr result

-- the same positions, where there was memory for them; where it was wanting, it stays so
abbrev pub IsAlso : Result (Vec ℕ) Memory → Result (Vec ℕ) Memory → Type 0
IsAlso (Ok targets) result = IfOk result (λ after. after.items ≡ targets.items)
IsAlso (Err memory) result = IsErr result

-- the tables have the first synonym and the first signature of each name
pub record AreFirsts (entries : List Entry) (firsts : Firsts) : Type 0 where
  pub synonyms : (name : List ℕ) → found_in firsts.synonyms name ≡ synonym_from 0 entries name
  pub signatures : (name : List ℕ) → found_in firsts.signatures name ≡ signature_from 0 entries name
