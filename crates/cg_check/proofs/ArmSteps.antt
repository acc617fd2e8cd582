-- What a term stands for, by its form.
use Rattle.std.proofs.Common.{◌≡◌, ap, ◌∙◌, List, map, Box}
use Rattle.std.specs.declared.alloc.Global.{Global}
use Rattle.cg_base.specs.declared.place.Place.{Place}
use Rattle.cg_core.specs.declared.at.At.{At}
use Rattle.cg_core.specs.declared.term.FieldTerm.{FieldTerm}
use Rattle.cg_core.specs.declared.term.Form.TheVariants as form
use Rattle.cg_core.specs.declared.term.Form.{Form, the_lemmas}
use Rattle.cg_core.specs.declared.term.Seen.{Seen}
use Rattle.cg_core.specs.declared.term.Term.{Term, fold_out-Term}
use Rattle.cg_core.specs.Kernels.{the_term, the_form, the_field}
use Rattle.cg_core.specs.Terms.{Tree, term, Shape, OneField, shape_layer, field_layer, term_layer, lets, let_bang, if_else, case_of, esac, struct, to_named, member, take_field, put}

by_form : (t : Term Place) (f : Form Place) → t.form ≡ f → the_term t ≡ term t.note (the_form f)
by_form t f h =
    fold_out-Term Place (Shape Place) (OneField Place) (Tree Place) (shape_layer Place Place (λ p. p)) (field_layer Place Place (λ p. p)) (term_layer Place Place (λ p. p)) t
    ∙ ap (λ g. term t.note (the_form g)) h

let_form : (b : Place) (e k : Box (Term Place) Global) → the_form (form.Let b e k) ≡ lets b (the_term e.value) (the_term k.value)
let_form b e k = search the_lemmas

let_bang_form : (os : List Seen) (b : Place) (e k : Box (Term Place) Global) → the_form (form.LetBang os b e k) ≡ let_bang os b (the_term e.value) (the_term k.value)
let_bang_form os b e k = search the_lemmas

if_form : (c x y : Box (Term Place) Global) → the_form (form.If c x y) ≡ if_else (the_term c.value) (the_term x.value) (the_term y.value)
if_form c x y = search the_lemmas

case_form : (e : Box (Term Place) Global) (at : At) (b : Place) (x y : Box (Term Place) Global) → the_form (form.Case e at b x y) ≡ case_of (the_term e.value) at b (the_term x.value) (the_term y.value)
case_form e at b x y = search the_lemmas

esac_form : (at : At) (e : Box (Term Place) Global) → the_form (form.Esac at e) ≡ esac at (the_term e.value)
esac_form at e = search the_lemmas

struct_form : (fs : List (FieldTerm Place)) → the_form (form.Struct fs) ≡ struct (to_named (map the_field fs))
struct_form fs = search the_lemmas

member_form : (e : Box (Term Place) Global) (at : At) → the_form (form.Member e at) ≡ member (the_term e.value) at
member_form e at = search the_lemmas

take_form : (e : Box (Term Place) Global) (at : At) (r b : Place) (k : Box (Term Place) Global) → the_form (form.Take e at r b k) ≡ take_field (the_term e.value) at r b (the_term k.value)
take_form e at r b k = search the_lemmas

put_form : (e : Box (Term Place) Global) (at : At) (x : Box (Term Place) Global) → the_form (form.Put e at x) ≡ put (the_term e.value) at (the_term x.value)
put_form e at x = search the_lemmas

-- a whole term
module _ (t : Term Place) where
  pub let_arm : (b : Place) (e k : Box (Term Place) Global) → t.form ≡ form.Let b e k → the_term t ≡ term t.note (lets b (the_term e.value) (the_term k.value))
  let_arm b e k h = by_form t (form.Let b e k) h ∙ ap (term t.note) (let_form b e k)

  pub let_bang_arm : (os : List Seen) (b : Place) (e k : Box (Term Place) Global) → t.form ≡ form.LetBang os b e k → the_term t ≡ term t.note (let_bang os b (the_term e.value) (the_term k.value))
  let_bang_arm os b e k h = by_form t (form.LetBang os b e k) h ∙ ap (term t.note) (let_bang_form os b e k)

  pub if_arm : (c x y : Box (Term Place) Global) → t.form ≡ form.If c x y → the_term t ≡ term t.note (if_else (the_term c.value) (the_term x.value) (the_term y.value))
  if_arm c x y h = by_form t (form.If c x y) h ∙ ap (term t.note) (if_form c x y)

  pub case_arm : (e : Box (Term Place) Global) (at : At) (b : Place) (x y : Box (Term Place) Global) → t.form ≡ form.Case e at b x y → the_term t ≡ term t.note (case_of (the_term e.value) at b (the_term x.value) (the_term y.value))
  case_arm e at b x y h = by_form t (form.Case e at b x y) h ∙ ap (term t.note) (case_form e at b x y)

  pub esac_arm : (at : At) (e : Box (Term Place) Global) → t.form ≡ form.Esac at e → the_term t ≡ term t.note (esac at (the_term e.value))
  esac_arm at e h = by_form t (form.Esac at e) h ∙ ap (term t.note) (esac_form at e)

  pub struct_arm : (fs : List (FieldTerm Place)) → t.form ≡ form.Struct fs → the_term t ≡ term t.note (struct (to_named (map the_field fs)))
  struct_arm fs h = by_form t (form.Struct fs) h ∙ ap (term t.note) (struct_form fs)

  pub member_arm : (e : Box (Term Place) Global) (at : At) → t.form ≡ form.Member e at → the_term t ≡ term t.note (member (the_term e.value) at)
  member_arm e at h = by_form t (form.Member e at) h ∙ ap (term t.note) (member_form e at)

  pub take_arm : (e : Box (Term Place) Global) (at : At) (r b : Place) (k : Box (Term Place) Global) → t.form ≡ form.Take e at r b k → the_term t ≡ term t.note (take_field (the_term e.value) at r b (the_term k.value))
  take_arm e at r b k h = by_form t (form.Take e at r b k) h ∙ ap (term t.note) (take_form e at r b k)

  pub put_arm : (e : Box (Term Place) Global) (at : At) (x : Box (Term Place) Global) → t.form ≡ form.Put e at x → the_term t ≡ term t.note (put (the_term e.value) at (the_term x.value))
  put_arm e at x h = by_form t (form.Put e at x) h ∙ ap (term t.note) (put_form e at x)
