-- Edits one after the other, and plans of them.
use Rattle.std.proofs.Common.{◌≡◌, ◌∙◌, ℕ, List, [], ◌∷◌, ◌++◌, Option, is_some, refl, sym, ap, subst}
use Rattle.sv8_history.specs.Machine.{Machine, Run}
use Rattle.sv8_history.specs.Changes.{Cause, Image, Poke, Clear, Change, IsRepoked, IsChanged, IsEdited, IsApart, ArePlanned}

module _ (m : Machine) where
  -- the runs have the same states and events
  pub record Alike (old new : Run m) : Type 0 where
    pub start : new.start ≡ old.start
    pub events : (n : ℕ) → new.events n ≡ old.events n

  repoked_from : (a : m.Cell) (t : ℕ) (p : Option m.Value) (old old' new : Run m) → Alike old old' → IsRepoked m a t p old new → IsRepoked m a t p old' new
  repoked_from a t p old old' new alike h = record {
    start = h.start ∙ sym alike.start;
    here = subst (λ e. m.AlikeBut a e (new.events t)) (sym (alike.events t)) h.here;
    poke = h.poke;
    elsewhere = λ n other. h.elsewhere n other ∙ sym (alike.events n);
  }

  changed_parts : (a : m.Cell) (t u : ℕ) (d : Cause m.Value) (old old' new : Run m) → Alike old old'
      → IsChanged m (record { cell = a; from = t; to = u; cause = d }) old new → IsChanged m (record { cell = a; from = t; to = u; cause = d }) old' new
  changed_parts a t u (Image v) old old' new alike h =
      (h.0, record { start = h.1.start ∙ ap (m.put a v) (sym alike.start); events = λ n. h.1.events n ∙ sym (alike.events n) })
  changed_parts a t u (Poke v) old old' new alike h = repoked_from a t _ old old' new alike h
  changed_parts a t u Clear old old' new alike h = (ap (λ e. is_some (m.poke a e)) (alike.events t) ∙ h.0, repoked_from a t _ old old' new alike h.1)

  edited_from : (cs : List (Change m)) (old old' new : Run m) → Alike old old' → IsEdited m cs old new → IsEdited m cs old' new
  edited_from [] old old' new alike h = (h.0 ∙ sym alike.start, λ n. h.1 n ∙ sym (alike.events n))
  edited_from (c ∷ cs) old old' new alike h = (h.0, changed_parts c.cell c.from c.to c.cause old old' h.0 alike h.1, h.2)

  -- one edit after the other
  pub edited_then : (cs ds : List (Change m)) (old mid new : Run m) → IsEdited m cs old mid → IsEdited m ds mid new → IsEdited m (cs ++ ds) old new
  edited_then [] ds old mid new h k = edited_from ds mid old new (record { start = sym h.0; events = λ n. sym (h.1 n) }) k
  edited_then (c ∷ cs) ds old mid new h k = (h.0, h.1, edited_then cs ds h.0 mid new h.2 k)

  -- one change
  pub edited_once : (c : Change m) (old new : Run m) → IsChanged m c old new → IsEdited m (c ∷ []) old new
  edited_once c old new h = (new, h, (refl, λ n. refl))

  -- each change of the first list is of another cell than those of the second
  abbrev pub AreApart : List (Change m) → List (Change m) → Type 0
  AreApart [] ds = Unit {0}
  AreApart (c ∷ cs) ds = IsApart m c.cell ds × AreApart cs ds

  pub apart_then : (a : m.Cell) (cs ds : List (Change m)) → IsApart m a cs → IsApart m a ds → IsApart m a (cs ++ ds)
  apart_then a [] ds h k = k
  apart_then a (c ∷ cs) ds h k = (h.0, apart_then a cs ds h.1 k)

  pub planned_then : (run : Run m) (r : ℕ) (cs ds : List (Change m)) → ArePlanned m run r cs → ArePlanned m run r ds → AreApart cs ds → ArePlanned m run r (cs ++ ds)
  planned_then run r [] ds h k apart = k
  planned_then run r (c ∷ cs) ds h k apart = (h.0, apart_then c.cell cs ds h.1 apart.0, planned_then run r cs ds h.2 k apart.1)

  pub are_apart_then : (cs ds es : List (Change m)) → AreApart cs es → AreApart ds es → AreApart (cs ++ ds) es
  are_apart_then [] ds es h k = k
  are_apart_then (c ∷ cs) ds es h k = (h.0, are_apart_then cs ds es h.1 k)
