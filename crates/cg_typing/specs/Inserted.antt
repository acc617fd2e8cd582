-- One entry more within a context, and a core whose variables are renumbered for it.
use Rattle.std.specs.Prelude.{ℕ, zero, suc, List, [], ◌∷◌, map}
use Rattle.cg_core.specs.declared.term.Seen.{Seen}
use Rattle.cg_core.specs.Terms.{Tree, term, Shape, var, unit, bool, lit, fun, op, app, lets, let_bang, if_else, con, case_of, esac, struct, member, take_field, put, cast, annot, Trees, none, more, Named, end, field, Note}

-- a list with one element more at a position
abbrev pub inserted : {A : Type 0} → ℕ → A → List A → List A
inserted zero x xs = x ∷ xs
inserted (suc k) x [] = x ∷ []
inserted (suc k) x (y ∷ ys) = y ∷ inserted k x ys

-- a position, where there is a new one at k: it is one greater from k on
abbrev pub raised : ℕ → ℕ → ℕ
raised zero i = suc i
raised (suc k) zero = zero
raised (suc k) (suc i) = suc (raised k i)

module _ (k : ℕ) where
  abbrev pub raise_observer : Seen → Seen
  raise_observer s = record { place = s.place; var = raised k s.var }

  abbrev mutual
    -- a core: every variable and every observer
    pub raise : Tree Note → Tree Note
    raise (term note shape) = term note (raise_shape shape)

    pub raise_shape : Shape Note → Shape Note
    raise_shape (var i) = var (raised k i)
    raise_shape unit = unit
    raise_shape (bool b) = bool b
    raise_shape (lit n) = lit n
    raise_shape (fun f args) = fun f args
    raise_shape (op o ts) = op o (raise_all ts)
    raise_shape (app f x) = app (raise f) (raise x)
    raise_shape (lets p x y) = lets p (raise x) (raise y)
    raise_shape (let_bang s p x y) = let_bang (map raise_observer s) p (raise x) (raise y)
    raise_shape (if_else c x y) = if_else (raise c) (raise x) (raise y)
    raise_shape (con n x) = con n (raise x)
    raise_shape (case_of c a p x y) = case_of (raise c) a p (raise x) (raise y)
    raise_shape (esac a x) = esac a (raise x)
    raise_shape (struct fs) = struct (raise_fields fs)
    raise_shape (member x a) = member (raise x) a
    raise_shape (take_field x a p q y) = take_field (raise x) a p q (raise y)
    raise_shape (put x a y) = put (raise x) a (raise y)
    raise_shape (cast x) = cast (raise x)
    raise_shape (annot x a) = annot (raise x) a

    pub raise_all : Trees Note → Trees Note
    raise_all none = none
    raise_all (more t ts) = more (raise t) (raise_all ts)

    pub raise_fields : Named Note → Named Note
    raise_fields end = end
    raise_fields (field name t fs) = field name (raise t) (raise_fields fs)
