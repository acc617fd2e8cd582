-- Proper terms: they are lawful, and mention only functions of which something holds. A term of each form is proper where its parts are.
use Rattle.std.proofs.Common.{◌≡◌, ℕ, suc, ◌<◌, List, [], ◌++◌, length}
use Rattle.std.proofs.lemmas.List.Elements.{All-append, All-nil}
use Rattle.std.specs.List.{All}
use Rattle.cg_base.specs.declared.fun.Fun.{Fun}
use Rattle.cg_base.specs.declared.place.Place.{Place}
use Rattle.cg_core.specs.declared.at.At.{At}
use Rattle.cg_core.specs.declared.op.Op.{Op}
use Rattle.cg_core.specs.declared.term.Seen.{Seen}
use Rattle.cg_core.specs.Terms.{Tree, term, var, unit, fun, op, app, lets, let_bang, if_else, con, case_of, esac, struct, member, take_field, put, cast, annot, none, more, Named, Arg}
use Rattle.cg_core_def.specs.Lawful.{AreApart, AreLawfulFields, AreSome, IsLawfulArg, IsLawfulTerm, IsLawfulType, Takes, field_names, fields_mentions, operands, term_mentions, user_of}

module _ (arities : List ℕ) (vars : ℕ) (P : ℕ → Type 0) where
  -- a proper term in a context of this length
  pub record IsProper (depth : ℕ) (t : Tree Place) : Type 0 where
    pub lawful : IsLawfulTerm arities vars depth t
    pub mentions : All P (term_mentions t)

  -- proper fields, whose names are apart
  pub record AreProper (depth : ℕ) (fs : Named Place) : Type 0 where
    pub apart : AreApart (field_names fs)
    pub lawful : AreLawfulFields arities vars depth fs
    pub mentions : All P (fields_mentions fs)

  pub proper_var : (depth i : ℕ) (p : Place) → i < depth → IsProper depth (term p (var i))
  proper_var depth i p lt = record { lawful = lt; mentions = All-nil P }

  pub proper_unit : (depth : ℕ) (p : Place) → IsProper depth (term p unit)
  proper_unit depth p = record { lawful = tt; mentions = All-nil P }

  pub proper_fun : (depth : ℕ) (p : Place) (f : Fun) (args : List Arg) → Takes arities f (length args) → All (IsLawfulArg arities vars) args → All P (user_of f) → IsProper depth (term p (fun f args))
  proper_fun depth p f args takes lawful users = record { lawful = (takes, lawful); mentions = users }

  pub proper_op_one : (depth : ℕ) (p : Place) (o : Op) (x : Tree Place) → 1 ≡ operands o → IsProper depth x → IsProper depth (term p (op o (more x none)))
  proper_op_one depth p o x count h = record { lawful = (count, (h.lawful, tt)); mentions = All-append P (term_mentions x) [] h.mentions (All-nil P) }

  pub proper_op_two : (depth : ℕ) (p : Place) (o : Op) (x y : Tree Place) → 2 ≡ operands o → IsProper depth x → IsProper depth y → IsProper depth (term p (op o (more x (more y none))))
  proper_op_two depth p o x y count h k = record {
    lawful = (count, (h.lawful, (k.lawful, tt)));
    mentions = All-append P (term_mentions x) (term_mentions y ++ []) h.mentions (All-append P (term_mentions y) [] k.mentions (All-nil P));
  }

  pub proper_app : (depth : ℕ) (p : Place) (x y : Tree Place) → IsProper depth x → IsProper depth y → IsProper depth (term p (app x y))
  proper_app depth p x y h k = record { lawful = (h.lawful, k.lawful); mentions = All-append P (term_mentions x) (term_mentions y) h.mentions k.mentions }

  pub proper_lets : (depth : ℕ) (p q : Place) (x y : Tree Place) → IsProper depth x → IsProper (suc depth) y → IsProper depth (term p (lets q x y))
  proper_lets depth p q x y h k = record { lawful = (h.lawful, k.lawful); mentions = All-append P (term_mentions x) (term_mentions y) h.mentions k.mentions }

  pub proper_let_bang : (depth : ℕ) (p q : Place) (seen : List Seen) (x y : Tree Place) → All (λ s. s.var < depth) seen → IsProper depth x → IsProper (suc depth) y → IsProper depth (term p (let_bang seen q x y))
  proper_let_bang depth p q seen x y all h k = record { lawful = (all, h.lawful, k.lawful); mentions = All-append P (term_mentions x) (term_mentions y) h.mentions k.mentions }

  pub proper_if : (depth : ℕ) (p : Place) (c x y : Tree Place) → IsProper depth c → IsProper depth x → IsProper depth y → IsProper depth (term p (if_else c x y))
  proper_if depth p c x y g h k = record {
    lawful = (g.lawful, h.lawful, k.lawful);
    mentions = All-append P (term_mentions c ++ term_mentions x) (term_mentions y) (All-append P (term_mentions c) (term_mentions x) g.mentions h.mentions) k.mentions;
  }

  pub proper_con : (depth : ℕ) (p : Place) (n : List ℕ) (x : Tree Place) → IsProper depth x → IsProper depth (term p (con n x))
  proper_con depth p n x h = record { lawful = h.lawful; mentions = h.mentions }

  pub proper_case : (depth : ℕ) (p : Place) (at : At) (q : Place) (c x y : Tree Place) → IsProper depth c → IsProper (suc depth) x → IsProper (suc depth) y → IsProper depth (term p (case_of c at q x y))
  proper_case depth p at q c x y g h k = record {
    lawful = (g.lawful, h.lawful, k.lawful);
    mentions = All-append P (term_mentions c ++ term_mentions x) (term_mentions y) (All-append P (term_mentions c) (term_mentions x) g.mentions h.mentions) k.mentions;
  }

  pub proper_esac : (depth : ℕ) (p : Place) (at : At) (x : Tree Place) → IsProper depth x → IsProper depth (term p (esac at x))
  proper_esac depth p at x h = record { lawful = h.lawful; mentions = h.mentions }

  pub proper_struct : (depth : ℕ) (p : Place) (fs : Named Place) → AreSome (field_names fs) → AreProper depth fs → IsProper depth (term p (struct fs))
  proper_struct depth p fs some h = record { lawful = (some, h.apart, h.lawful); mentions = h.mentions }

  pub proper_member : (depth : ℕ) (p : Place) (x : Tree Place) (at : At) → IsProper depth x → IsProper depth (term p (member x at))
  proper_member depth p x at h = record { lawful = h.lawful; mentions = h.mentions }

  pub proper_take : (depth : ℕ) (p : Place) (x : Tree Place) (at : At) (q r : Place) (y : Tree Place) → IsProper depth x → IsProper (suc (suc depth)) y → IsProper depth (term p (take_field x at q r y))
  proper_take depth p x at q r y h k = record { lawful = (h.lawful, k.lawful); mentions = All-append P (term_mentions x) (term_mentions y) h.mentions k.mentions }

  pub proper_put : (depth : ℕ) (p : Place) (x : Tree Place) (at : At) (y : Tree Place) → IsProper depth x → IsProper depth y → IsProper depth (term p (put x at y))
  proper_put depth p x at y h k = record { lawful = (h.lawful, k.lawful); mentions = All-append P (term_mentions x) (term_mentions y) h.mentions k.mentions }

  pub proper_cast : (depth : ℕ) (p : Place) (x : Tree Place) → IsProper depth x → IsProper depth (term p (cast x))
  proper_cast depth p x h = record { lawful = h.lawful; mentions = h.mentions }

  pub proper_annot : (depth : ℕ) (p : Place) (x : Tree Place) (a : Arg) → IsProper depth x → IsLawfulType vars a.ty → IsProper depth (term p (annot x a))
  proper_annot depth p x a h lawful = record { lawful = (h.lawful, lawful); mentions = h.mentions }
