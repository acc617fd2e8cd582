-- What the machine has read before and behind a value is spelled.
use Rattle.std.proofs.Common.{ℕ, List, [], ◌∷◌, refl}
use Rattle.std.specs.Prelude.{codes}
use Rattle.cg_base.proofs.Spans.{either_way}
use Rattle.cg_base.specs.declared.place.Place.{Place}
use Rattle.cg_heaptext_def.specs.Grammar.{Reading, ◌then◌, sign_at, mark, IsPayload, ReadsValue, ReadsFields}
use Rattle.cg_heaptext_def.specs.Tokens.{Lexeme}
use Rattle.cg_heaptext_def.specs.Trees.{Written, numeral, truth, nothing, gone, constant, applied, record', slots}
use Rattle.cg_heaptext_parser.specs.Machine.{Labelled, to_fields, Frame, payload, paren, unboxed, Base, in_cell, in_argument, AfterParen, Have, labelled, on_constructor, on_value, begins_value, closed, on_comma, enclosed, on_close, on_end, on_have, on_after_constructor, on_paren}
use Rattle.cg_heaptext_parser.specs.Symbols.{Symbol, Digits, Wild, Truth, Constructor, At, Comma, OpenRecord, CloseBrace, OpenParen, CloseParen}
use Rattle.cg_heaptext_parser.proofs.Known.{Means, seen, seen_at}
use Rattle.cg_heaptext_parser.proofs.Spelled.{front, Lead, lead_behind, ReadsLabelled, LabelRead, BegunRead, IsBare, FramesRead, StateRead, entry_done, label_done, two_done, fields_done}
use Rattle.cg_heaptext_parser.proofs.ValueComplete.{Fits}

-- a payload fits everywhere, and where no constructor waits each value does
pub payload_fits : (fs : List Frame) (v : Written) → IsPayload v → Fits fs v
payload_fits (payload p x ∷ fs) v i = i
payload_fits [] v i = tt
payload_fits (paren p vs ∷ fs) v i = tt
payload_fits (unboxed p ns x ∷ fs) v i = tt

bare_fits : (fs : List Frame) (v : Written) → IsBare fs → Fits fs v
bare_fits (payload p x ∷ fs) v i = absurd i
bare_fits [] v i = tt
bare_fits (paren p vs ∷ fs) v i = tt
bare_fits (unboxed p ns x ∷ fs) v i = tt

-- what stands in parentheses may be a payload
enclosed_payload : (p : Place) (vs : List Written) (v : Written) → IsPayload (enclosed p vs v)
enclosed_payload p [] v = tt
enclosed_payload p (w ∷ ws) v = tt

-- a value as the payload of what waits for it
pub closed_holds : (b : Base) (fs : List Frame) (v : Written) (all rest : List Lexeme) → Fits fs v → (FramesRead b fs then ReadsValue v) all rest → (FramesRead b (closed fs v).0 then ReadsValue (closed fs v).1) all rest
closed_holds b [] v all rest f r = r
closed_holds b (payload p x ∷ fs) v all rest f r =
    let a = r.1 in let d = a.2 in
    closed_holds b fs (applied p x v) all rest (bare_fits fs (applied p x v) a.1) (d.0, d.1, (a.0, f, (r.0, d.2, r.2)))
closed_holds b (paren p vs ∷ fs) v all rest f r = r
closed_holds b (unboxed p ns x ∷ fs) v all rest f r = r

-- a constructor behind which nothing is read is a value
pub constant_read : (b : Base) (fs : List Frame) (q : Place) (x : List ℕ) (all rest : List Lexeme) → FramesRead b (payload q x ∷ fs) all rest → StateRead (Have b fs (constant q x)) all rest
constant_read b fs q x all rest r = let a = r.2 in (bare_fits fs (constant q x) r.1, (a.0, a.1, (r.0, a.2)))

-- fields behind what stands before them, with one more, and with the sign that closes them
module _ (P : Reading) (ns : List Labelled) (x : List ℕ) (v : Written) (all from rest : List Lexeme) where
  comma_labelled : (((P then Lead ReadsLabelled ns) then LabelRead x) then ReadsValue v) all from → mark (codes ",") from rest → (P then Lead ReadsLabelled (labelled ns x v)) all rest
  comma_labelled r c =
      let a = r.1 in let d = a.1 in
      (d.0, d.1, lead_behind ReadsLabelled ns (record { name = x; value = v }) d.0 a.0 rest d.2 (from, label_done x v a.0 r.0 from a.2 r.2, c))

  all_labelled : (((P then Lead ReadsLabelled ns) then LabelRead x) then ReadsValue v) all from → mark (codes "}") from rest → (P then ReadsFields (to_fields (labelled ns x v)) then mark (codes "}")) all rest
  all_labelled r c =
      let a = r.1 in let d = a.1 in
      (d.0, d.1, (from, fields_done ns (record { name = x; value = v }) d.0 a.0 from d.2 (label_done x v a.0 r.0 from a.2 r.2), c))

module _ (t : Lexeme) (rest all : List Lexeme) where
  -- ---- before a value

  constructor_holds : (b : Base) (fs : List Frame) (x : List ℕ) → Means t.token (Constructor x) → FramesRead b fs all (t ∷ rest) → StateRead (on_constructor b fs t.place x) all rest
  constructor_holds b (payload q y ∷ fs) x h r = (tt, (t ∷ rest, r, (h.0, seen_at _ t rest h.1)))
  constructor_holds b [] x h r = (h.0, tt, (t ∷ rest, r, seen_at _ t rest h.1))
  constructor_holds b (paren q vs ∷ fs) x h r = (h.0, tt, (t ∷ rest, r, seen_at _ t rest h.1))
  constructor_holds b (unboxed q ns y ∷ fs) x h r = (h.0, tt, (t ∷ rest, r, seen_at _ t rest h.1))

  pub value_holds : (b : Base) (fs : List Frame) (y : Symbol) → Means t.token y → FramesRead b fs all (t ∷ rest) → StateRead (on_value b fs t.place y) all rest
  value_holds b fs (Digits ds) h r = (payload_fits fs (numeral (record { place = t.place; digits = ds })) tt, (t ∷ rest, r, seen_at _ t rest h.1))
  value_holds b fs Wild h r = (payload_fits fs (gone t.place) tt, (t ∷ rest, r, seen_at _ t rest h.1))
  value_holds b fs (Truth c) h r = (payload_fits fs (truth t.place c) tt, (t ∷ rest, r, seen_at _ t rest h.1))
  value_holds b fs (Constructor x) h r = constructor_holds b fs x h r
  value_holds b fs At h r = (t ∷ rest, r, seen_at _ t rest h.1)
  value_holds b fs OpenParen h r = (t ∷ rest, r, seen_at _ t rest h.1)
  value_holds b fs OpenRecord h r = (rest, (t ∷ rest, r, seen_at _ t rest h.1), refl)
  value_holds b fs _ h r = tt

  pub paren_holds : (b : Base) (fs : List Frame) (q : Place) (y : Symbol) → Means t.token y → StateRead (AfterParen b fs q) all (t ∷ rest) → StateRead (on_paren b fs q t.place y) all rest
  paren_holds b fs q CloseParen h r = (payload_fits fs (nothing q) tt, (r.0, r.1, (t ∷ rest, r.2, seen _ t rest h.1)))
  paren_holds b fs q y h r = value_holds b (paren q [] ∷ fs) y h (t ∷ rest, r, refl)

  -- ---- behind a value that is no payload

  comma_holds : (b : Base) (fs : List Frame) (v : Written) → Means t.token Comma → (FramesRead b fs then ReadsValue v) all (t ∷ rest) → StateRead (on_comma b fs v) all rest
  comma_holds (in_cell c q ns x) [] v h r = comma_labelled (BegunRead c then sign_at q (codes "{")) ns x v all (t ∷ rest) rest r (seen _ t rest h.1)
  comma_holds (in_argument es) [] v h r = tt
  comma_holds b (payload p x ∷ fs) v h r = tt
  comma_holds b (paren p vs ∷ fs) v h r =
      let a = r.1 in
      (a.0, a.1, lead_behind ReadsValue vs v a.0 r.0 rest a.2 (t ∷ rest, r.2, seen _ t rest h.1))
  comma_holds b (unboxed p ns x ∷ fs) v h r = comma_labelled (FramesRead b fs then sign_at p (codes "#{")) ns x v all (t ∷ rest) rest r (seen _ t rest h.1)

  -- a parenthesis that is closed
  enclosed_read : (p : Place) (vs : List Written) (v : Written) (from mid last : List Lexeme) → sign_at p (codes "(") from mid → (Lead ReadsValue vs then ReadsValue v) mid last → mark (codes ")") last rest → ReadsValue (enclosed p vs v) from rest
  enclosed_read p [] v from mid last s r c = (mid, s, (last, front (ReadsValue v) mid r.0 last r.1 r.2, c))
  enclosed_read p (w ∷ ws) v from mid last s r c = (mid, s, (last, two_done w ws v mid r.0 last r.1 r.2, c))

  close_holds : (b : Base) (fs : List Frame) (v : Written) → Means t.token CloseParen → (FramesRead b fs then ReadsValue v) all (t ∷ rest) → StateRead (on_close b fs v) all rest
  close_holds b (paren p vs ∷ fs) v h r =
      let a = r.1 in let d = a.1 in
      (payload_fits fs (enclosed p vs v) (enclosed_payload p vs v), (d.0, d.1, enclosed_read p vs v d.0 a.0 (t ∷ rest) d.2 (r.0, a.2, r.2) (seen _ t rest h.1)))
  close_holds b _ v h r = tt

  end_holds : (b : Base) (fs : List Frame) (v : Written) → Means t.token CloseBrace → (FramesRead b fs then ReadsValue v) all (t ∷ rest) → StateRead (on_end b fs v) all rest
  end_holds (in_cell c q ns x) [] v h r =
      let w = all_labelled (BegunRead c then sign_at q (codes "{")) ns x v all (t ∷ rest) rest r (seen _ t rest h.1) in let s = w.1 in
      entry_done c (slots q (to_fields (labelled ns x v))) all s.0 rest s.1 (w.0, s.2, w.2)
  end_holds (in_argument es) [] v h r = tt
  end_holds b (payload p x ∷ fs) v h r = tt
  end_holds b (paren p vs ∷ fs) v h r = tt
  end_holds b (unboxed p ns x ∷ fs) v h r =
      let w = all_labelled (FramesRead b fs then sign_at p (codes "#{")) ns x v all (t ∷ rest) rest r (seen _ t rest h.1) in let s = w.1 in
      (payload_fits fs (record' p (to_fields (labelled ns x v))) tt, (s.0, s.1, (w.0, s.2, w.2)))

  pub have_holds : (b : Base) (fs : List Frame) (v : Written) (y : Symbol) → Means t.token y → StateRead (Have b fs v) all (t ∷ rest) → StateRead (on_have b fs v y) all rest
  have_holds b fs v Comma h r = comma_holds b (closed fs v).0 (closed fs v).1 h (closed_holds b fs v all (t ∷ rest) r.0 r.1)
  have_holds b fs v CloseParen h r = close_holds b (closed fs v).0 (closed fs v).1 h (closed_holds b fs v all (t ∷ rest) r.0 r.1)
  have_holds b fs v CloseBrace h r = end_holds b (closed fs v).0 (closed fs v).1 h (closed_holds b fs v all (t ∷ rest) r.0 r.1)
  have_holds b fs v _ h r = tt

  pub after_constructor_holds : (b : Base) (fs : List Frame) (q : Place) (x : List ℕ) (y : Symbol) → Means t.token y → FramesRead b (payload q x ∷ fs) all (t ∷ rest) → StateRead (on_after_constructor b fs q x t.place y) all rest
  after_constructor_holds b fs q x y h r =
      either_way (λ s. StateRead s all rest) (begins_value y) (on_value b (payload q x ∷ fs) t.place y) (on_have b fs (constant q x) y)
      (λ e. value_holds b (payload q x ∷ fs) y h r)
      (λ e. have_holds b fs (constant q x) y h (constant_read b fs q x all (t ∷ rest) r))
