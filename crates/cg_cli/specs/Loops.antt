-- What std's errors are told as, and what the loops over std's readers and writers do to the bytes that a reader has left and that a writer
-- holds, where those are known.
use Rattle.std.specs.Prelude.{◌≡◌, ℕ, ◌+◌, ◌<◌, ◌≤◌, List, ◌++◌, length, take, Vec, IfSome, Ok, Err}
use Rattle.std.specs.declared.option.Option.{Option}
use Rattle.std.specs.declared.result.Result.{Result}
use Rattle.std.specs.declared.alloc.Global.{Global}
use Rattle.std.specs.Io.KnownBytes.{Keeps, Appends, Consumes, IsAtEnd}
use Rattle.std.specs.declared.io.ErrorKind.{ErrorKind}
use Rattle.std.specs.declared.io.ErrorKind.TheVariants.{OutOfMemory}
use Rattle.cg_outside.specs.declared.outside.FileFault.{FileFault}
use Rattle.cg_outside.specs.declared.outside.FileFault.TheVariants.{Failed, Memory}

-- what an error of std's is told as: want of memory as such, and any other as a failure
abbrev pub told_as : ErrorKind → FileFault
told_as OutOfMemory = Memory
told_as _ = Failed

-- the bytes are the first most + 1 that a reader had left, or all of them where there are fewer, and it has lost just these
pub record IsFrontOf (most : ℕ) (old new : Option (List ℕ)) (bytes : List ℕ) : Type 0 where
  pub bound : length bytes ≤ most + 1
  pub front : IfSome old (λ left. bytes ≡ take (most + 1) left)
  pub lost : Consumes old new bytes

-- a reader has lost no more than so many bytes, from the front
abbrev pub LosesAtMost : ℕ → Option (List ℕ) → Option (List ℕ) → Type 0
LosesAtMost count old new = (lost : List ℕ) × (length lost ≤ count) × Consumes old new lost

-- one turn of a read appends what the reader lost, none only at its end; it fails only before any was taken
abbrev pub ReadsTurn : ℕ → Option (List ℕ) → Option (List ℕ) → List ℕ → List ℕ → Result ℕ FileFault → Type 0
ReadsTurn room old new before after (Ok count) = (taken : List ℕ) × (length taken ≡ count) × (count ≤ room)
    × (after ≡ before ++ taken) × Consumes old new taken × (count ≡ 0 → IsAtEnd new)
ReadsTurn room old new before after (Err Failed) = Keeps old new
ReadsTurn room old new before after (Err Memory) = LosesAtMost room old new

-- a reader gives its front; it fails only before all of that was taken
abbrev pub ReadsFront : ℕ → Option (List ℕ) → Option (List ℕ) → Result (Vec ℕ Global) FileFault → Type 0
ReadsFront most old new (Ok bytes) = IsFrontOf most old new bytes.items
ReadsFront most old new (Err Failed) = LosesAtMost most old new
ReadsFront most old new (Err Memory) = LosesAtMost (most + 1) old new

-- a writer takes all the bytes; or it has failed, and took a prefix that is short of them; or memory was wanting, and it took nothing. A
-- piece that is empty is always taken.
abbrev pub WritesWhole : {T : Type 0} → List ℕ → Option (List ℕ) → Option (List ℕ) → Result T FileFault → Type 0
WritesWhole bytes old new (Ok _) = Appends old new bytes
WritesWhole bytes old new (Err Failed) = (n : ℕ) × (n < length bytes) × Appends old new (take n bytes)
WritesWhole bytes old new (Err Memory) = (0 < length bytes) × Keeps old new
