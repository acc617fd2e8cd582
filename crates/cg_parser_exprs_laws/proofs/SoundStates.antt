-- What a state of the machine has read, and what is asked of it.
use Rattle.std.proofs.Common.{ℕ, ◌≤◌, List}
use Rattle.std.specs.Prelude.{⊤, None}
use Rattle.cg_base.specs.Reader.{Reader}
use Rattle.cg_core.specs.declared.at.At.{At}
use Rattle.cg_surface.specs.Written.{Written}
use Rattle.cg_surface.specs.Patterns.{Pattern}
use Rattle.cg_surface.specs.Exprs.{Expr}
use Rattle.cg_parser_symbols.specs.Symbols.{Seen}
use Rattle.cg_parser_symbols.specs.Symbols as symbols
use Rattle.cg_parser_symbols.specs.Readings.{Reading, ◌then◌, token, sign}
use Rattle.cg_parser_exprs_def.specs.Grammar.{looseness, Stands, op_sign, Binds, FieldsBind, BindsBind, ArgsBefore, ReadsHead, FieldsBefore, BindsBefore}
use Rattle.cg_parser_exprs_def.specs.Machine as machine
use Rattle.cg_parser_exprs_def.specs.Machine.{Owner, Want, Have, AfterLower, AfterUpper, InArgs, InSig, AfterDot, WantField, AfterField, InPattern, AfterAngle, AfterBang, Observed, WantAlt, AfterCon, InAltPattern, WantArrow, Stuck, WrongBar, alone_op}
use Rattle.cg_parser_exprs_def.specs.Plain as plain
use Rattle.cg_parser_build.specs.Plain.{trees}
use Rattle.cg_parser_exprs_def.specs.Unfinished as unfinished
use Rattle.cg_parser_exprs_def.specs.Unfinished.{Frame, Open, AtomFits, OwnerFits, OpenFits}
use Rattle.cg_parser_exprs_laws.proofs.Parts.{HasRead}

module _ {TS PS : Type 0} (types : Reader TS Seen Written) (patterns : Reader PS Seen Pattern) (OfType : List Seen → Written → Type 0) (OfPattern : List Seen → Pattern → Type 0) where
  -- a state
  abbrev pub Mode : Type 0
  Mode = plain.Stage types patterns

  -- what is read, in short names
  abbrev opens : List Frame → List ℕ
  opens = machine.opens types patterns trees

  abbrev room : List Frame → ℕ
  room = machine.room types patterns trees

  abbrev Read : Expr → List ℕ → List ℕ → Reading
  Read = unfinished.Read OfType OfPattern

  abbrev Whole : Expr → Reading
  Whole = unfinished.Whole OfType OfPattern

  abbrev SeenRead : List At → Reading
  SeenRead = unfinished.SeenRead OfType OfPattern

  abbrev OwnerRead : Owner Expr → Reading
  OwnerRead = unfinished.OwnerRead OfType OfPattern

  abbrev OpenRead : Open → List ℕ → Reading
  OpenRead = unfinished.OpenRead OfType OfPattern

  abbrev Below : List Frame → Reading
  Below = unfinished.Below OfType OfPattern

  abbrev Good : List Frame → Type 0
  Good = unfinished.Good OfType OfPattern

  -- an expression at most so loose under these frames
  abbrev pub Behind : ℕ → Expr → List Frame → Type 0
  Behind k e fs = (looseness e ≤ k) × (looseness e ≤ room fs) × ((1 ≤ room fs) → Stands e) × Binds e × Good fs

  -- what is asked of a mode
  abbrev pub Sound : Mode → Type 0
  Sound (Want fs) = Good fs
  Sound (Have e fs) = AtomFits (room fs) e × Good fs
  Sound (AfterLower p n fs) = Good fs
  Sound (AfterUpper p n fs) = (1 ≤ room fs) × Good fs
  Sound (InArgs p n args s fs) = Good fs
  Sound (InSig p e s fs) = Stands e × Binds e × Good fs
  Sound (AfterDot e fs) = AtomFits (room fs) e × Good fs
  Sound (WantField o gs fs) = OwnerFits (room fs) o × FieldsBind gs × Good fs
  Sound (AfterField o gs at fs) = OwnerFits (room fs) o × FieldsBind gs × Good fs
  Sound (InPattern p bs s fs) = (12 ≤ room fs) × BindsBind bs × Good fs
  Sound (AfterAngle a p e fs) = Behind 0 e fs
  Sound (AfterBang e seen fs) = Behind 11 e fs
  Sound (Observed e seen fs) = Behind 11 e fs
  Sound (WantAlt o fs) = (12 ≤ room fs) × OpenFits o × Good fs
  Sound (AfterCon o p n fs) = (12 ≤ room fs) × OpenFits o × Good fs
  Sound (InAltPattern o p n s fs) = (12 ≤ room fs) × OpenFits o × Good fs
  Sound (WantArrow o p x fs) = (12 ≤ room fs) × OpenFits o × Good fs
  Sound Stuck = ⊤
  Sound WrongBar = ⊤

  -- the mode has read the tokens from the first of the expression up to the rest
  abbrev pub ModeRead : Mode → Reading
  ModeRead (Want fs) = Below fs
  ModeRead (Have e fs) = Below fs then Read e (opens fs) (opens fs)
  ModeRead (AfterLower p n fs) = Below fs then token (symbols.lower n) p
  ModeRead (AfterUpper p n fs) = Below fs then token (symbols.upper n) p
  ModeRead (InArgs p n args s fs) = Below fs then token (symbols.lower n) p then sign symbols.bracket then ArgsBefore OfType OfPattern args then HasRead types s
  ModeRead (InSig p e s fs) = Below fs then token symbols.opening p then Whole e then sign symbols.colon then HasRead types s
  ModeRead (AfterDot e fs) = Below fs then Whole e then sign symbols.dot
  ModeRead (WantField o gs fs) = Below fs then OwnerRead o then FieldsBefore OfType OfPattern gs
  ModeRead (AfterField o gs at fs) = Below fs then OwnerRead o then FieldsBefore OfType OfPattern gs then token (symbols.lower at.name) at.place
  ModeRead (InPattern p bs s fs) = Below fs then token symbols.let_word p then BindsBefore OfType OfPattern bs then HasRead patterns s
  ModeRead (AfterAngle a p e fs) = Below fs then Read e (opens fs) (opens fs) then op_sign (alone_op a) p
  ModeRead (AfterBang e seen fs) = Below fs then Read e (opens fs) (opens fs) then SeenRead seen then sign symbols.bang
  ModeRead (Observed e seen fs) = Below fs then Read e (opens fs) (opens fs) then SeenRead seen
  ModeRead (WantAlt o fs) = Below fs then OpenRead o (opens fs)
  ModeRead (AfterCon o p n fs) = Below fs then OpenRead o (opens fs) then token (symbols.upper n) p
  ModeRead (InAltPattern o p n s fs) = Below fs then OpenRead o (opens fs) then token (symbols.upper n) p then HasRead patterns s
  ModeRead (WantArrow o p x fs) = Below fs then OpenRead o (opens fs) then ReadsHead OfType OfPattern p None x
  ModeRead Stuck = λ all rest. ⊤
  ModeRead WrongBar = λ all rest. ⊤

  -- both at once
  pub record Holds (all rest : List Seen) (m : Mode) : Type 0 where
    pub sound : Sound m
    pub read : ModeRead m all rest

  -- an expression has been read under these frames, and at its end these matches are open
  pub record Spelled (to : List ℕ) (all rest : List Seen) (e : Expr) (fs : List Frame) : Type 0 where
    pub loose : looseness e ≤ room fs
    pub stands : (1 ≤ room fs) → Stands e
    pub binds : Binds e
    pub good : Good fs
    pub read : (Below fs then Read e (opens fs) to) all rest
