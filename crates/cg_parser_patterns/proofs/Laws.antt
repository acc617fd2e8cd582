-- Whatever the machine has read, something completes it; so it is an exact reader.
use Rattle.std.proofs.Common.{◌≡◌, List, [], ◌∷◌, refl, true, false, Some, None}
use Rattle.cg_base.specs.declared.place.Place.{Place}
use Rattle.cg_base.specs.Reader.{Reads}
use Rattle.cg_surface.specs.Patterns.{Pattern, name, paren, tuple, and_pattern, and_field}
use Rattle.cg_parser_symbols.specs.Symbols.{Symbol, lower, wildcard, closing, closing_brace, equals, arrow, Seen}
use Rattle.cg_parser_symbols.specs.Readings.{ArePast}
use Rattle.cg_parser_patterns.specs.Grammar.{SpellsPattern}
use Rattle.cg_parser_patterns.specs.Machine as machine
use Rattle.cg_parser_patterns.specs.Machine.{InParen, InTuple, InField, Want, Have, Head, WantField, AfterField, Stuck}
use Rattle.cg_parser_patterns.specs.Plain as plain
use Rattle.cg_parser_patterns.specs.Plain.{trees, plain_reader}
use Rattle.cg_parser_patterns.proofs.Short.{Frame, Stage, opened, mode_step, finish, step, run}
use Rattle.cg_parser_patterns.proofs.Complete.{complete}
use Rattle.cg_parser_patterns.proofs.Sound.{sound}

abbrev there : Place
there = record { line = 1; column = 2 }

abbrev seen_at : Symbol → Seen
seen_at y = record { symbol = y; place = there }

-- some tokens past column 1 complete the state
abbrev Completable : Stage → Type 0
Completable s = (rest : List Seen) × ArePast rest × (x : Pattern) × (finish (run s rest) ≡ Some x)

-- one token more
fed : (s : Stage) (y : Symbol) → Completable (mode_step s y there) → Completable s
fed s y c = (seen_at y ∷ c.0, (refl, c.1), c.2, c.3)

have : (fs : List Frame) (x : Pattern) → Completable (Have x fs)
have [] x = ([], tt, x, refl)
have (InParen p ∷ fs) x = fed (Have x (InParen p ∷ fs)) closing (have fs (paren p x))
have (InTuple p xs ∷ fs) x = fed (Have x (InTuple p xs ∷ fs)) closing (have fs (tuple p (and_pattern xs x)))
have (InField o done at ∷ fs) x = fed (Have x (InField o done at ∷ fs)) closing_brace (have fs (opened o (and_field done at x)))

-- a name is completed as any pattern is
named : (fs : List Frame) (p : Place) (n : List _) → Completable (Head p n fs)
named [] p n = ([], tt, name p n, refl)
named (InParen q ∷ fs) p n = fed (Head p n (InParen q ∷ fs)) closing (have fs (paren q (name p n)))
named (InTuple q xs ∷ fs) p n = fed (Head p n (InTuple q xs ∷ fs)) closing (have fs (tuple q (and_pattern xs (name p n))))
named (InField o done at ∷ fs) p n = fed (Head p n (InField o done at ∷ fs)) closing_brace (have fs (opened o (and_field done at (name p n))))

completable : (s : Stage) → machine.is_open trees s ≡ true → Completable s
completable (Want fs) o = fed (Want fs) wildcard (have fs _)
completable (Have x fs) o = have fs x
completable (Head p n fs) o = named fs p n
completable (WantField q done fs) o = fed (WantField q done fs) (lower []) (fed (mode_step (WantField q done fs) (lower []) there) closing_brace (have fs _))
completable (AfterField q done at fs) o = fed (AfterField q done at fs) closing_brace (have fs _)
completable Stuck o = cc

-- what is shut has no end, and stays shut
no_tree : (s : Stage) → machine.is_open trees s ≡ false → finish s ≡ None
no_tree Stuck h = refl
no_tree (Want fs) h = cc
no_tree (Have x fs) h = cc
no_tree (Head p n fs) h = cc
no_tree (WantField o done fs) h = cc
no_tree (AfterField o done at fs) h = cc

shut : (s : Stage) (t : Seen) → machine.is_open trees s ≡ false → machine.is_open trees (step s t) ≡ false
shut Stuck t h = refl
shut (Want fs) t h = cc
shut (Have x fs) t h = cc
shut (Head p n fs) t h = cc
shut (WantField o done fs) t h = cc
shut (AfterField o done at fs) t h = cc

-- what is open can be completed by tokens past column 1
pub viable_past : (ts : List Seen) → plain_reader.is_open (run plain_reader.begin ts) ≡ true → (rest : List Seen) × ArePast rest × (x : Pattern) × (plain_reader.finish (run (run plain_reader.begin ts) rest) ≡ Some x)
viable_past ts o = completable (run (Want []) ts) o

-- the six laws
pub laws : Reads plain_reader SpellsPattern
laws = record { begins = refl; shut = shut; no_tree = no_tree; complete = complete; sound = sound; viable = λ ts o. let c = viable_past ts o in (c.0, c.2, c.3) }

-- behind a whole pattern, `=` is none of it
pub ends : (s : plain.Stage) (x : Pattern) (p : Place) → plain_reader.finish s ≡ Some x → plain_reader.is_open (plain_reader.step s (record { symbol = equals; place = p })) ≡ false
ends (Want fs) x p h = cc
ends (Have y fs) x p h = refl
ends (Head q n fs) x p h = refl
ends (WantField o done fs) x p h = cc
ends (AfterField o done at fs) x p h = cc
ends Stuck x p h = refl

-- nor is an arrow, which begins none either
pub no_arrow : (s : plain.Stage) (x : Pattern) (p : Place) → plain_reader.finish s ≡ Some x → plain_reader.is_open (plain_reader.step s (record { symbol = arrow; place = p })) ≡ false
no_arrow (Want fs) x p h = cc
no_arrow (Have y fs) x p h = refl
no_arrow (Head q n fs) x p h = refl
no_arrow (WantField o done fs) x p h = cc
no_arrow (AfterField o done at fs) x p h = cc
no_arrow Stuck x p h = refl
