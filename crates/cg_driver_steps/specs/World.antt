-- The world that the steps of a command go through: what files hold, and how many reads and writes of each name have failed
-- (docs/LANGUAGE.md, "The outside").
use Rattle.std.specs.Prelude.{◌≡◌, ℕ, List, Option, Some}
use Rattle.cg_outside.specs.Failures.{OneMore}
use Rattle.cg_outside.specs.Held.{Held, with_file, HoldsPrefix}

pub record World : Type 0 where
  pub held : Option Held
  pub reads : List ℕ → ℕ
  pub writes : List ℕ → ℕ

abbrev pub world : Option Held → (List ℕ → ℕ) → (List ℕ → ℕ) → World
world held reads writes = record { held = held; reads = reads; writes = writes }

-- the world in which these files are held and no call has failed
abbrev pub calm : Held → World
calm held = world (Some held) (λ name. 0) (λ name. 0)

-- what a read that failed leaves: one more failed read of its name, and all else as it was
pub record AfterNoRead (name : List ℕ) (old new : World) : Type 0 where
  pub held : new.held ≡ old.held
  pub reads : OneMore name old.reads new.reads
  pub writes : new.writes ≡ old.writes

-- what a write leaves: these bytes under its name, and all else as it was
pub record AfterWrite (name bytes : List ℕ) (old new : World) : Type 0 where
  pub held : new.held ≡ with_file old.held name bytes
  pub reads : new.reads ≡ old.reads
  pub writes : new.writes ≡ old.writes

-- what a write that failed leaves: a prefix of the bytes under its name, one more failed write of it, and all else as it was
pub record AfterNoWrite (name bytes : List ℕ) (old new : World) : Type 0 where
  pub held : HoldsPrefix name bytes old.held new.held
  pub reads : new.reads ≡ old.reads
  pub writes : OneMore name old.writes new.writes

-- no file was written, and none was tried
pub record Unwritten (old new : World) : Type 0 where
  pub held : new.held ≡ old.held
  pub writes : new.writes ≡ old.writes
