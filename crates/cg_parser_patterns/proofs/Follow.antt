-- The machine over bounded trees does the same as that over whole ones.
use Rattle.std.proofs.Common.{◌≡◌, ℕ, ◌<◌, List, [], ◌∷◌, refl, sym, ◌∙◌, ap, arith, true, false, Bool, cond, Some, None}
use Rattle.std.specs.Prelude.{nat_le}
use Rattle.std.proofs.lemmas.Bool.{le-leb, lt-leb, leb-true, leb-false}
use Rattle.cg_base.specs.declared.place.Place.{Place}
use Rattle.cg_core.specs.declared.at.At.{At}
use Rattle.cg_surface.specs.Patterns.{Pattern, paren, tuple, fields, take, depth_of, Patterns, and_pattern, patterns_depth, FieldPatterns, and_field, fields_depth}
use Rattle.cg_parser_symbols.specs.Symbols.{Symbol, lower, wildcard, opening, closing, brace, closing_brace, unboxed, equals, comma}
use Rattle.cg_parser_symbols.specs.Follows.{Follows, option_map}
use Rattle.cg_parser_patterns.specs.Machine as machine
use Rattle.cg_parser_patterns.specs.Machine.{Builder, Opener, Unboxed, Taken, Frame, InParen, InTuple, InField, Mode, Want, Have, Head, WantField, AfterField, Stuck}
use Rattle.cg_parser_patterns.specs.Plain.{trees, plain_reader, Stage}
use Rattle.cg_parser_patterns.specs.Bounded.{depth_limit, within, within_patterns, within_fields, made, joined, bound, bounded, bounded_reader, Held}

module _ {X Y L M F G : Type 0} (h : X → Y) (l : L → M) (g : F → G) where
  abbrev pub frame_map : Frame L F → Frame M G
  frame_map (InParen p) = InParen p
  frame_map (InTuple p xs) = InTuple p (l xs)
  frame_map (InField o done at) = InField o (g done) at

  abbrev pub frames_map : List (Frame L F) → List (Frame M G)
  frames_map [] = []
  frames_map (f ∷ fs) = frame_map f ∷ frames_map fs

  abbrev pub mode_map : Mode X L F → Mode Y M G
  mode_map (Want fs) = Want (frames_map fs)
  mode_map (Have x fs) = Have (h x) (frames_map fs)
  mode_map (Head p n fs) = Head p n (frames_map fs)
  mode_map (WantField o done fs) = WantField o (g done) (frames_map fs)
  mode_map (AfterField o done at fs) = AfterField o (g done) at (frames_map fs)
  mode_map Stuck = Stuck

-- the maps of patterns and of lists keep how they are built
record Keeps {X Y L M F G : Type 0} (B : Builder X L F) (C : Builder Y M G) (h : X → Y) (l : L → M) (g : F → G) : Type 0 where
  name : (p : Place) (n : List ℕ) → C.name p n ≡ h (B.name p n)
  any : (p : Place) → C.any p ≡ h (B.any p)
  unit : (p : Place) → C.unit p ≡ h (B.unit p)
  paren : (p : Place) (x : X) → C.paren p (h x) ≡ h (B.paren p x)
  tuple : (p : Place) (xs : L) → C.tuple p (l xs) ≡ h (B.tuple p xs)
  fields : (p : Place) (fs : F) → C.fields p (g fs) ≡ h (B.fields p fs)
  take : (p : Place) (n : List ℕ) (fs : F) → C.take p n (g fs) ≡ h (B.take p n fs)
  no_patterns : C.no_patterns ≡ l B.no_patterns
  and_pattern : (xs : L) (x : X) → C.and_pattern (l xs) (h x) ≡ l (B.and_pattern xs x)
  no_fields : C.no_fields ≡ g B.no_fields
  and_field : (fs : F) (at : At) (x : X) → C.and_field (g fs) at (h x) ≡ g (B.and_field fs at x)

module _ {X Y L M F G : Type 0} (B : Builder X L F) (C : Builder Y M G) (h : X → Y) (l : L → M) (g : F → G) (keeps : Keeps B C h l g) where
  abbrev framed : List (Frame L F) → List (Frame M G)
  framed = frames_map h l g

  abbrev moded : Mode X L F → Mode Y M G
  moded = mode_map h l g

  same_opened : (o : Opener) (done : F) → machine.opened C o (g done) ≡ h (machine.opened B o done)
  same_opened (Unboxed p) done = keeps.fields p done
  same_opened (Taken p n) done = keeps.take p n done

  -- fields and one more, between their braces
  same_record : (o : Opener) (done : F) (at : At) (x : X) → machine.opened C o (C.and_field (g done) at (h x)) ≡ h (machine.opened B o (B.and_field done at x))
  same_record o done at x = ap (machine.opened C o) (keeps.and_field done at x) ∙ same_opened o (B.and_field done at x)

  same_close : (x : X) (fs : List (Frame L F)) → machine.on_close C (h x) (framed fs) ≡ moded (machine.on_close B x fs)
  same_close x [] = refl
  same_close x (InParen p ∷ fs) = ap (λ y. Have y (framed fs)) (keeps.paren p x)
  same_close x (InTuple p xs ∷ fs) = ap (λ y. Have y (framed fs)) (ap (C.tuple p) (keeps.and_pattern xs x) ∙ keeps.tuple p (B.and_pattern xs x))
  same_close x (InField o done at ∷ fs) = refl

  same_comma : (x : X) (fs : List (Frame L F)) → machine.on_comma C (h x) (framed fs) ≡ moded (machine.on_comma B x fs)
  same_comma x [] = refl
  same_comma x (InParen p ∷ fs) =
      ap (λ ys. Want (InTuple p ys ∷ framed fs)) (ap (λ ys. C.and_pattern ys (h x)) keeps.no_patterns ∙ keeps.and_pattern B.no_patterns x)
  same_comma x (InTuple p xs ∷ fs) = ap (λ ys. Want (InTuple p ys ∷ framed fs)) (keeps.and_pattern xs x)
  same_comma x (InField o done at ∷ fs) = ap (λ d. WantField o d (framed fs)) (keeps.and_field done at x)

  same_brace : (x : X) (fs : List (Frame L F)) → machine.on_brace C (h x) (framed fs) ≡ moded (machine.on_brace B x fs)
  same_brace x [] = refl
  same_brace x (InParen p ∷ fs) = refl
  same_brace x (InTuple p xs ∷ fs) = refl
  same_brace x (InField o done at ∷ fs) = ap (λ y. Have y (framed fs)) (same_record o done at x)

  same_go_on : (y : Symbol) (x : X) (fs : List (Frame L F)) → machine.go_on C y (h x) (framed fs) ≡ moded (machine.go_on B y x fs)
  same_go_on closing x fs = same_close x fs
  same_go_on comma x fs = same_comma x fs
  same_go_on closing_brace x fs = same_brace x fs
  same_go_on _ x fs = refl

  same_name_on : (y : Symbol) (p : Place) (n : List ℕ) (fs : List (Frame L F)) → machine.name_on C y p n (framed fs) ≡ moded (machine.name_on B y p n fs)
  same_name_on brace p n fs = ap (λ d. WantField (Taken p n) d (framed fs)) keeps.no_fields
  same_name_on closing p n fs = ap (λ y. machine.on_close C y (framed fs)) (keeps.name p n) ∙ same_close (B.name p n) fs
  same_name_on comma p n fs = ap (λ y. machine.on_comma C y (framed fs)) (keeps.name p n) ∙ same_comma (B.name p n) fs
  same_name_on closing_brace p n fs = ap (λ y. machine.on_brace C y (framed fs)) (keeps.name p n) ∙ same_brace (B.name p n) fs
  same_name_on _ p n fs = refl

  same_empty : (fs : List (Frame L F)) → machine.on_empty C (framed fs) ≡ moded (machine.on_empty B fs)
  same_empty [] = refl
  same_empty (InParen p ∷ fs) = ap (λ y. Have y (framed fs)) (keeps.unit p)
  same_empty (InTuple p xs ∷ fs) = refl
  same_empty (InField o done at ∷ fs) = refl

  same_start : (y : Symbol) (p : Place) (fs : List (Frame L F)) → machine.start C y p (framed fs) ≡ moded (machine.start B y p fs)
  same_start (lower n) p fs = refl
  same_start wildcard p fs = ap (λ y. Have y (framed fs)) (keeps.any p)
  same_start opening p fs = refl
  same_start closing p fs = same_empty fs
  same_start unboxed p fs = ap (λ d. WantField (Unboxed p) d (framed fs)) keeps.no_fields
  same_start _ p fs = refl

  same_field : (y : Symbol) (p : Place) (o : Opener) (done : F) (fs : List (Frame L F)) → machine.field C y p o (g done) (framed fs) ≡ moded (machine.field B y p o done fs)
  same_field (lower n) p o done fs = refl
  same_field _ p o done fs = refl

  same_alone : (done : F) (at : At) → machine.alone C (g done) at ≡ g (machine.alone B done at)
  same_alone done at = ap (C.and_field (g done) at) (keeps.name at.place at.name) ∙ keeps.and_field done at (B.name at.place at.name)

  same_field_on : (y : Symbol) (o : Opener) (done : F) (at : At) (fs : List (Frame L F)) → machine.field_on C y o (g done) at (framed fs) ≡ moded (machine.field_on B y o done at fs)
  same_field_on equals o done at fs = refl
  same_field_on comma o done at fs = ap (λ d. WantField o d (framed fs)) (same_alone done at)
  same_field_on closing_brace o done at fs =
      ap (λ y. Have y (framed fs)) (ap (machine.opened C o) (same_alone done at) ∙ same_opened o (machine.alone B done at))
  same_field_on _ o done at fs = refl

  same_mode : (m : Mode X L F) (y : Symbol) (p : Place) → machine.mode_step C (moded m) y p ≡ moded (machine.mode_step B m y p)
  same_mode (Want fs) y p = same_start y p fs
  same_mode (Have x fs) y p = same_go_on y x fs
  same_mode (Head q n fs) y p = same_name_on y q n fs
  same_mode (WantField o done fs) y p = same_field y p o done fs
  same_mode (AfterField o done at fs) y p = same_field_on y o done at fs
  same_mode Stuck y p = refl

  same_open : (m : Mode X L F) → machine.is_open C (moded m) ≡ machine.is_open B m
  same_open (Want fs) = refl
  same_open (Have x fs) = refl
  same_open (Head p n fs) = refl
  same_open (WantField o done fs) = refl
  same_open (AfterField o done at fs) = refl
  same_open Stuck = refl

  same_whole : (x : X) (fs : List (Frame L F)) → machine.whole C (h x) (framed fs) ≡ option_map h (machine.whole B x fs)
  same_whole x [] = refl
  same_whole x (f ∷ fs) = refl

  same_finish : (m : Mode X L F) → machine.finish C (moded m) ≡ option_map h (machine.finish B m)
  same_finish (Want fs) = refl
  same_finish (Have x fs) = same_whole x fs
  same_finish (Head p n fs) = ap (λ y. machine.whole C y (framed fs)) (keeps.name p n) ∙ same_whole (B.name p n) fs
  same_finish (WantField o done fs) = refl
  same_finish (AfterField o done at fs) = refl
  same_finish Stuck = refl

  follow : Follows (machine.reader B) (machine.reader C) moded h
  follow = record { begins = refl; steps = λ m t. same_mode m t.symbol t.place; opens = same_open; finishes = same_finish }

-- a tree made of some parts is too deep where they are
made_within : {A : Type 0} (depth : A → ℕ) (f : A → Pattern) (a : A) → depth a < depth_of (f a) → made f (cond (nat_le (depth a) depth_limit) (Some a) None) ≡ within (f a)
made_within depth f a h = go (nat_le (depth a) depth_limit) refl
  where
    go : (b : Bool) → nat_le (depth a) depth_limit ≡ b → made f (cond b (Some a) None) ≡ within (f a)
    go true q = refl
    go false q = sym (rw (lt-leb (depth_of (f a)) depth_limit (omega (arith, leb-false (depth a) depth_limit q))) refl)

joined_within : (xs : Patterns) (x : Pattern) → joined (within_patterns xs) (within x) ≡ within_patterns (and_pattern xs x)
joined_within xs x = go (nat_le (patterns_depth xs) depth_limit) (nat_le (depth_of x) depth_limit) refl refl
  where
    go : (b c : Bool) → nat_le (patterns_depth xs) depth_limit ≡ b → nat_le (depth_of x) depth_limit ≡ c → joined (cond b (Some xs) None) (cond c (Some x) None) ≡ within_patterns (and_pattern xs x)
    go true true q r = sym (rw (le-leb (patterns_depth (and_pattern xs x)) depth_limit (omega (arith, leb-true (patterns_depth xs) depth_limit q, leb-true (depth_of x) depth_limit r))) refl)
    go true false q r = sym (rw (lt-leb (patterns_depth (and_pattern xs x)) depth_limit (omega (arith, leb-false (depth_of x) depth_limit r))) refl)
    go false c q r = sym (rw (lt-leb (patterns_depth (and_pattern xs x)) depth_limit (omega (arith, leb-false (patterns_depth xs) depth_limit q))) refl)

bound_within : (fs : FieldPatterns) (at : At) (x : Pattern) → bound (within_fields fs) at (within x) ≡ within_fields (and_field fs at x)
bound_within fs at x = go (nat_le (fields_depth fs) depth_limit) (nat_le (depth_of x) depth_limit) refl refl
  where
    go : (b c : Bool) → nat_le (fields_depth fs) depth_limit ≡ b → nat_le (depth_of x) depth_limit ≡ c → bound (cond b (Some fs) None) at (cond c (Some x) None) ≡ within_fields (and_field fs at x)
    go true true q r = sym (rw (le-leb (fields_depth (and_field fs at x)) depth_limit (omega (arith, leb-true (fields_depth fs) depth_limit q, leb-true (depth_of x) depth_limit r))) refl)
    go true false q r = sym (rw (lt-leb (fields_depth (and_field fs at x)) depth_limit (omega (arith, leb-false (depth_of x) depth_limit r))) refl)
    go false c q r = sym (rw (lt-leb (fields_depth (and_field fs at x)) depth_limit (omega (arith, leb-false (fields_depth fs) depth_limit q))) refl)

kept : Keeps trees bounded within within_patterns within_fields
kept = record {
  name = λ p n. refl;
  any = λ p. refl;
  unit = λ p. refl;
  paren = λ p x. made_within depth_of (paren p) x (omega arith);
  tuple = λ p xs. made_within patterns_depth (tuple p) xs (omega arith);
  fields = λ p fs. made_within fields_depth (fields p) fs (omega arith);
  take = λ p n fs. made_within fields_depth (take p n) fs (omega arith);
  no_patterns = refl;
  and_pattern = joined_within;
  no_fields = refl;
  and_field = bound_within;
}

-- the state over bounded trees
abbrev pub held : Stage → Held
held = mode_map within within_patterns within_fields

pub follows : Follows plain_reader bounded_reader held within
follows = follow trees bounded within within_patterns within_fields kept
