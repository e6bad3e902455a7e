-- What an action neither reads nor writes stays; and it keeps bytes bytes, and levels levels.
use Rattle.std.proofs.Common.{◌≡◌, ℕ, zero, suc, ◌+◌, ◌*◌, ◌%◌, ◌^◌, ◌<◌, ◌≤◌, Bool, true, false, List, [], ◌∷◌, ◌++◌, length, get_or, set, refl, sym, ◌∙◌, ap, arith, inl, inr}
use Rattle.std.specs.Prelude.{not, ◌&&◌}
use Rattle.std.proofs.lemmas.List.{length-set, get_or-set_other, get_or_past}
use Rattle.std.proofs.lemmas.Bool.{true≢false, cases_lt}
use Rattle.std.proofs.lemmas.Bool.Decides.{nat_tests}
use Rattle.sv8_model.specs.declared.touch.Touch.{Touch}
use Rattle.sv8_model.specs.declared.touch.Touch.TheVariants.{Read, Write, Input, Levels, Expiry}
use Rattle.sv8_model.specs.Words.{bit}
use Rattle.sv8_model.specs.Levels.{cleared, every_level, timer_level}
use Rattle.sv8_model.specs.Outside.{Outside, with_word, with_byte, word_address, without_oldest}
use Rattle.sv8_model.specs.Action.{Action, done, load_word, store_word, load_byte, store_byte, take_input, count_waiting, emit, ask_levels, clear_levels, expire, observe, after, touches}
use Rattle.sv8_model.specs.Cells.{Cell, ram_byte, waiting_bytes, pending_level, byte, held, get, is_read}
use Rattle.sv8_model.specs.Frame.{UntouchedStays, IsSound, SoundStays}
use Rattle.sv8_model.proofs.Lists.{set_each, length-with_word, word_other, word_bytes, IsByte, length-unmasked, get_or-unmasked}
use Rattle.sv8_model.proofs.Footprints.{hits, covers, is_covered, is_read-more, is_covered-more, unread_covered, first_false, rest_false}

-- the same, with what some touch writes in the place of what is written
record Keeps (ts : List Touch) (o o' : Outside) : Type 0 where
  pub size : length o'.ram ≡ length o.ram
  pub levels : length o'.pending ≡ length o.pending
  pub same : (c : Cell) → is_read ts c ≡ false → is_covered ts c ≡ false → get c o' ≡ get c o

-- and of one touch
record KeepsOne (t : Touch) (o o' : Outside) : Type 0 where
  pub size : length o'.ram ≡ length o.ram
  pub levels : length o'.pending ≡ length o.pending
  pub same : (c : Cell) → hits t c ≡ false → covers t c ≡ false → get c o' ≡ get c o

one_self : (t : Touch) (o : Outside) → KeepsOne t o o
one_self t o = record { size = refl; levels = refl; same = λ c u v. refl }

then_keeps : (t : Touch) (ts : List Touch) (o p q : Outside) → KeepsOne t o p → Keeps ts p q → Keeps (t ∷ ts) o q
then_keeps t ts o p q h k = record {
  size = k.size ∙ h.size;
  levels = k.levels ∙ h.levels;
  same = λ c u v.
      let u2 = sym (is_read-more t ts c) ∙ u in
      let v2 = sym (is_covered-more t ts c) ∙ v in
      k.same c (rest_false _ _ u2) (rest_false _ _ v2) ∙ h.same c (first_false _ _ u2) (first_false _ _ v2);
}

store_keeps : (k v : ℕ) (o : Outside) → KeepsOne (Write (4 * k)) o (record o { ram = with_word o.ram k v })
store_keeps k v o = record { size = length-with_word o.ram k v; levels = refl; same = at } where
  at : (c : Cell) → hits (Write (4 * k)) c ≡ false → covers (Write (4 * k)) c ≡ false → get c (record o { ram = with_word o.ram k v }) ≡ get c o
  at (ram_byte i) u w = ap byte (word_other o.ram k v i (λ e. let d : 4 * k ≡ word_address i = omega arith in grind (arith, nat_tests, d, w)))
  at waiting_bytes u w = refl
  at (pending_level l) u w = refl

byte_keeps : (i v : ℕ) (o : Outside) → KeepsOne (Read (word_address i)) o (record o { ram = with_byte o.ram i v })
unfolding with_byte
byte_keeps i v o = record { size = length-set o.ram i _; levels = refl; same = at } where
  at : (c : Cell) → hits (Read (word_address i)) c ≡ false → covers (Read (word_address i)) c ≡ false → get c (record o { ram = with_byte o.ram i v }) ≡ get c o
  at (ram_byte j) u w = ap byte (get_or-set_other o.ram i j _ 0 (λ e. let d : word_address i ≡ word_address j = ap word_address (sym e) in grind (arith, nat_tests, d, u)))
  at waiting_bytes u w = refl
  at (pending_level l) u w = refl

take_keeps : (o : Outside) → KeepsOne Input o (record o { waiting = without_oldest o.waiting })
take_keeps o = record { size = refl; levels = refl; same = at } where
  at : (c : Cell) → hits Input c ≡ false → covers Input c ≡ false → get c (record o { waiting = without_oldest o.waiting }) ≡ get c o
  at (ram_byte i) u w = refl
  at waiting_bytes u w = absurd (true≢false u)
  at (pending_level l) u w = refl

-- every level from 1 to 15 is in the word of all levels
every_bit : (l : ℕ) → 1 ≤ l → l < 16 → bit every_level l ≡ true
every_bit zero h k = absurd (omega arith)
every_bit (suc zero) h k = refl
every_bit (suc (suc zero)) h k = refl
every_bit (suc (suc (suc zero))) h k = refl
every_bit (suc (suc (suc (suc zero)))) h k = refl
every_bit (suc (suc (suc (suc (suc zero))))) h k = refl
every_bit (suc (suc (suc (suc (suc (suc zero)))))) h k = refl
every_bit (suc (suc (suc (suc (suc (suc (suc zero))))))) h k = refl
every_bit (suc (suc (suc (suc (suc (suc (suc (suc zero)))))))) h k = refl
every_bit (suc (suc (suc (suc (suc (suc (suc (suc (suc zero))))))))) h k = refl
every_bit (suc (suc (suc (suc (suc (suc (suc (suc (suc (suc zero)))))))))) h k = refl
every_bit (suc (suc (suc (suc (suc (suc (suc (suc (suc (suc (suc zero))))))))))) h k = refl
every_bit (suc (suc (suc (suc (suc (suc (suc (suc (suc (suc (suc (suc zero)))))))))))) h k = refl
every_bit (suc (suc (suc (suc (suc (suc (suc (suc (suc (suc (suc (suc (suc zero))))))))))))) h k = refl
every_bit (suc (suc (suc (suc (suc (suc (suc (suc (suc (suc (suc (suc (suc (suc zero)))))))))))))) h k = refl
every_bit (suc (suc (suc (suc (suc (suc (suc (suc (suc (suc (suc (suc (suc (suc (suc zero))))))))))))))) h k = refl
every_bit (suc (suc (suc (suc (suc (suc (suc (suc (suc (suc (suc (suc (suc (suc (suc (suc l)))))))))))))))) h k = absurd (omega arith)

not_cleared : (p b : Bool) → p ≡ false → (p && not b) ≡ p
not_cleared p b e = rw e refl

-- there are the levels 0 to 15, of which 0 is never pending
clear_keeps : (w : ℕ) (o : Outside) → IsSound o → KeepsOne (Levels every_level) o (record o { pending = cleared w o.pending })
unfolding cleared
clear_keeps w o sound = record { size = refl; levels = length-unmasked 0 w o.pending; same = at } where
  none : (l : ℕ) → bit every_level l ≡ false → get_or o.pending l false ≡ false
  none zero u = sound.none_at_zero
  none (suc l) u = elim (cases_lt (suc l) 16) [
    | inl below ↦ absurd (true≢false (sym (every_bit (suc l) (omega arith) below) ∙ u))
    | inr beyond ↦ get_or_past o.pending (suc l) false (omega (arith, sound.count))
  ]

  at : (c : Cell) → hits (Levels every_level) c ≡ false → covers (Levels every_level) c ≡ false → get c (record o { pending = cleared w o.pending }) ≡ get c o
  at (ram_byte i) u v = refl
  at waiting_bytes u v = refl
  at (pending_level l) u v = ap held (get_or-unmasked 0 w o.pending l ∙ not_cleared (get_or o.pending l false) (bit w (0 + l)) (none l u))

expire_keeps : (o : Outside) → KeepsOne Expiry o (record o { pending = set o.pending timer_level true })
expire_keeps o = record { size = refl; levels = length-set o.pending timer_level true; same = at } where
  at : (c : Cell) → hits Expiry c ≡ false → covers Expiry c ≡ false → get c (record o { pending = set o.pending timer_level true }) ≡ get c o
  at (ram_byte i) u w = refl
  at waiting_bytes u w = refl
  at (pending_level l) u w = ap held (get_or-set_other o.pending timer_level l true false (λ e. grind (arith, nat_tests, e, w)))

-- ---- bytes stay bytes, and levels levels

store_sound : (k v : ℕ) (o : Outside) → IsSound o → IsSound (record o { ram = with_word o.ram k v })
store_sound k v o h = record { bytes = word_bytes o.ram k v h.bytes; count = h.count; none_at_zero = h.none_at_zero }

byte_sound : (i v : ℕ) (o : Outside) → IsSound o → IsSound (record o { ram = with_byte o.ram i v })
unfolding with_byte
byte_sound i v o h = record { bytes = set_each IsByte o.ram 0 i (v % 2 ^ 8) h.bytes (omega arith); count = h.count; none_at_zero = h.none_at_zero }

clear_sound : (w : ℕ) (o : Outside) → IsSound o → IsSound (record o { pending = cleared w o.pending })
unfolding cleared
clear_sound w o h = record {
  bytes = h.bytes;
  count = length-unmasked 0 w o.pending ∙ h.count;
  none_at_zero = get_or-unmasked 0 w o.pending 0 ∙ ap (λ p. p && not (bit w 0)) h.none_at_zero;
}

expire_sound : (o : Outside) → IsSound o → IsSound (record o { pending = set o.pending timer_level true })
expire_sound o h = record {
  bytes = h.bytes;
  count = length-set o.pending timer_level true ∙ h.count;
  none_at_zero = get_or-set_other o.pending timer_level 0 true false (λ e. omega arith) ∙ h.none_at_zero;
}

pub sound : {R : Type 0} → SoundStays R
sound (done x) o h = h
sound (load_word k g) o h = sound (g _) o h
sound (store_word k v a) o h = sound a _ (store_sound k v o h)
sound (load_byte i g) o h = sound (g _) o h
sound (store_byte i v a) o h = sound a _ (byte_sound i v o h)
sound (take_input g) o h = sound (g _) _ (record { bytes = h.bytes; count = h.count; none_at_zero = h.none_at_zero })
sound (count_waiting g) o h = sound (g _) o h
sound (emit b a) o h = sound a _ (record { bytes = h.bytes; count = h.count; none_at_zero = h.none_at_zero })
sound (ask_levels w g) o h = sound (g _) o h
sound (clear_levels w a) o h = sound a _ (clear_sound w o h)
sound (expire a) o h = sound a _ (expire_sound o h)
sound (observe s a) o h = sound a o h

-- ---- the law

keeps : {R : Type 0} (a : Action R) (o : Outside) → IsSound o → Keeps (touches a o) o (after a o)
keeps (done x) o h = record { size = refl; levels = refl; same = λ c u v. refl }
keeps (load_word k g) o h = then_keeps _ _ o o _ (one_self _ o) (keeps (g _) o h)
keeps (store_word k v a) o h = then_keeps _ _ o _ _ (store_keeps k v o) (keeps a _ (store_sound k v o h))
keeps (load_byte i g) o h = then_keeps _ _ o o _ (one_self _ o) (keeps (g _) o h)
keeps (store_byte i v a) o h = then_keeps _ _ o _ _ (byte_keeps i v o) (keeps a _ (byte_sound i v o h))
keeps (take_input g) o h = then_keeps _ _ o _ _ (take_keeps o) (keeps (g _) _ (record { bytes = h.bytes; count = h.count; none_at_zero = h.none_at_zero }))
keeps (count_waiting g) o h = then_keeps _ _ o o _ (one_self _ o) (keeps (g _) o h)
keeps (emit b a) o h = emitted (keeps a (record o { output = o.output ++ b ∷ [] }) (record { bytes = h.bytes; count = h.count; none_at_zero = h.none_at_zero })) where
  at : (c : Cell) → get c (record o { output = o.output ++ b ∷ [] }) ≡ get c o
  at (ram_byte i) = refl
  at waiting_bytes = refl
  at (pending_level l) = refl

  emitted : {ts : List Touch} {q : Outside} → Keeps ts (record o { output = o.output ++ b ∷ [] }) q → Keeps ts o q
  emitted k = record { size = k.size; levels = k.levels; same = λ c u v. k.same c u v ∙ at c }
keeps (ask_levels w g) o h = then_keeps _ _ o o _ (one_self _ o) (keeps (g _) o h)
keeps (clear_levels w a) o h = then_keeps _ _ o _ _ (clear_keeps w o h) (keeps a _ (clear_sound w o h))
keeps (expire a) o h = then_keeps _ _ o _ _ (expire_keeps o) (keeps a _ (expire_sound o h))
keeps (observe s a) o h = keeps a o h

pub stays : {R : Type 0} → UntouchedStays R
stays a o h =
    let k = keeps a o h in
    record { size = k.size; levels = k.levels; same = λ c u v. k.same c u (sym (unread_covered (touches a o) c u) ∙ v) }
