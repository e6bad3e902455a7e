-- An action that reads no cell in which two outsides differ does the same in both.
use Rattle.std.proofs.Common.{◌≡◌, ◌≢◌, ℕ, ◌+◌, ◌*◌, ◌/◌, ◌<◌, ◌==◌, Bool, true, false, List, [], ◌∷◌, ◌++◌, length, get_or, set, refl, sym, ◌∙◌, ap, subst, arith}
use Rattle.std.specs.Prelude.{not, ◌&&◌, ◌||◌}
use Rattle.std.proofs.Math.Bool.{and-true, and-false}
use Rattle.std.proofs.lemmas.Bool.{true≢false}
use Rattle.std.proofs.lemmas.Bool.Decides.{nat_tests}
use Rattle.sv8_model.specs.declared.touch.Touch.{Touch}
use Rattle.sv8_model.specs.declared.touch.Touch.TheVariants.{Read, Write, Input, Levels, Expiry}
use Rattle.sv8_model.specs.Words.{bit}
use Rattle.sv8_model.specs.Levels.{asked, cleared, levels_word, every_level, timer_level}
use Rattle.sv8_model.specs.Outside.{Outside, word_of, with_word, with_byte, word_address, oldest, without_oldest}
use Rattle.sv8_model.specs.Action.{Action, done, load_word, store_word, load_byte, store_byte, take_input, count_waiting, emit, ask_levels, clear_levels, expire, observe, result_of, after, touches, observations}
use Rattle.sv8_model.specs.Cells.{Cell, ram_byte, waiting_bytes, pending_level, byte, queue, held, byte_of, queue_of, held_of, get, is_written}
use Rattle.sv8_model.specs.Frame.{Cells, Alike, Unread, remaining, FrameOfAction}
use Rattle.sv8_model.proofs.Lists.{set_alike, set_sizes, length-with_word, with_word_alike, length-unmasked, get_or-unmasked, masked_alike}
use Rattle.sv8_model.proofs.Footprints.{hits, covers, is_covered, is_read-more, is_covered-more, unread_covered, true_first, rest_false, read_covers, input_covers, levels_cover, write_keeps_levels}

-- ---- one touch after another

-- the touch reads no cell of the set
abbrev Spares : Cells → Touch → Type 0
Spares cells t = (c : Cell) → hits t c ≡ true → cells c ≡ false

-- the set without what the touch writes
abbrev without : Cells → Touch → Cells
without cells t c = cells c && not (covers t c)

-- no touch reads a cell of the set that no touch before it has written
abbrev SparesAll : Cells → List Touch → Type 0
SparesAll cells [] = Unit {0}
SparesAll cells (t ∷ ts) = Spares cells t × SparesAll (without cells t) ts

-- the set without what the touches write
abbrev left : Cells → List Touch → Cells
left cells [] = cells
left cells (t ∷ ts) = left (without cells t) ts

record Same {R : Type 0} (cells : Cells) (a a' : Action R) (o o' : Outside) : Type 0 where
  pub result : result_of a o ≡ result_of a' o'
  pub touched : touches a o ≡ touches a' o'
  pub observed : observations a o ≡ observations a' o'
  pub alike : Alike (left cells (touches a o)) (after a o) (after a' o')

-- ---- what both outsides hold

out_of : (a b : Bool) → b ≡ false → (a && not b) ≡ false → a ≡ false
out_of a b e h = sym (and-true a) ∙ ap (λ x. a && not x) (sym e) ∙ h

spared_byte : (cs : Cells) (o o' : Outside) (i : ℕ) → Alike cs o o' → Spares cs (Read (word_address i)) → (j : ℕ) → word_address j ≡ word_address i → get_or o.ram j 0 ≡ get_or o'.ram j 0
spared_byte cs o o' i h u j e = ap byte_of (h.same (ram_byte j) (u (ram_byte j) (grind (arith, nat_tests, e))))

word_alike : (cs : Cells) (o o' : Outside) (k : ℕ) → Alike cs o o' → Spares cs (Read (4 * k)) → word_of o.ram k ≡ word_of o'.ram k
unfolding word_of
word_alike cs o o' k h u =
    let at : (j : ℕ) → j < 4 → get_or o.ram (4 * k + j) 0 ≡ get_or o'.ram (4 * k + j) 0 =
    λ j l. ap byte_of (h.same (ram_byte (4 * k + j)) (u (ram_byte (4 * k + j)) (let e : 4 * ((4 * k + j) / 4) ≡ 4 * k = omega arith in grind (arith, nat_tests, e)))) in
    let zero_more : 4 * k + 0 ≡ 4 * k = omega arith in
    let b0 : get_or o.ram (4 * k) 0 ≡ get_or o'.ram (4 * k) 0 = subst (λ n. get_or o.ram n 0 ≡ get_or o'.ram n 0) zero_more (at 0 (omega arith)) in
    let b1 = at 1 (omega arith) in
    let b2 = at 2 (omega arith) in
    let b3 = at 3 (omega arith) in
    cc

zero_more : (l : ℕ) → l ≡ 0 + l
zero_more l = omega arith

asked_alike : (cs : Cells) (o o' : Outside) (w : ℕ) → Alike cs o o' → Spares cs (Levels w) → asked w o.pending ≡ asked w o'.pending
unfolding asked
asked_alike cs o o' w h u = ap levels_word (masked_alike 0 w o.pending o'.pending h.levels (λ l t. ap held_of (h.same (pending_level l) (u (pending_level l) (ap (bit w) (zero_more l) ∙ t)))))

waiting_alike : (cs : Cells) (o o' : Outside) → Alike cs o o' → Spares cs Input → o.waiting ≡ o'.waiting
waiting_alike cs o o' h u = ap queue_of (h.same waiting_bytes (u waiting_bytes refl))

-- ---- what both outsides hold afterwards

-- a touch that writes nothing leaves the set
alike_on : (cs : Cells) (o o' : Outside) (t : Touch) → ((c : Cell) → covers t c ≡ false) → Alike cs o o' → Alike (without cs t) o o'
alike_on cs o o' t none h = record { size = h.size; levels = h.levels; output = h.output; same = λ c u. h.same c (out_of (cs c) (covers t c) (none c) u) }

store_alike : (cs : Cells) (o o' : Outside) (k v : ℕ) → Alike cs o o' → Alike (without cs (Write (4 * k))) (record o { ram = with_word o.ram k v }) (record o' { ram = with_word o'.ram k v })
store_alike cs o o' k v h = record {
  size = length-with_word o.ram k v ∙ h.size ∙ sym (length-with_word o'.ram k v);
  levels = h.levels;
  output = h.output;
  same = at;
} where
  at : (c : Cell) → without cs (Write (4 * k)) c ≡ false → get c (record o { ram = with_word o.ram k v }) ≡ get c (record o' { ram = with_word o'.ram k v })
  at (ram_byte i) u = ap byte (with_word_alike o.ram o'.ram h.size k v i (λ n. ap byte_of (h.same (ram_byte i) (out_of (cs (ram_byte i)) (4 * k == word_address i) (let d : 4 * k ≢ 4 * (i / 4) = λ e. n (omega arith) in grind (arith, nat_tests, d)) u))))
  at waiting_bytes u = h.same waiting_bytes (out_of (cs waiting_bytes) false refl u)
  at (pending_level l) u = h.same (pending_level l) (out_of (cs (pending_level l)) _ (write_keeps_levels (4 * k) l) u)

byte_alike : (cs : Cells) (o o' : Outside) (i v : ℕ) → Alike cs o o' → Alike cs (record o { ram = with_byte o.ram i v }) (record o' { ram = with_byte o'.ram i v })
unfolding with_byte
byte_alike cs o o' i v h = record {
  size = set_sizes o.ram o'.ram i _ h.size;
  levels = h.levels;
  output = h.output;
  same = at;
} where
  at : (c : Cell) → cs c ≡ false → get c (record o { ram = with_byte o.ram i v }) ≡ get c (record o' { ram = with_byte o'.ram i v })
  at (ram_byte j) u = ap byte (set_alike o.ram o'.ram 0 h.size j i _ (λ n. ap byte_of (h.same (ram_byte j) u)))
  at waiting_bytes u = h.same waiting_bytes u
  at (pending_level l) u = h.same (pending_level l) u

take_alike : (cs : Cells) (o o' : Outside) → Alike cs o o' → o.waiting ≡ o'.waiting → Alike cs (record o { waiting = without_oldest o.waiting }) (record o' { waiting = without_oldest o'.waiting })
take_alike cs o o' h e = record { size = h.size; levels = h.levels; output = h.output; same = at } where
  at : (c : Cell) → cs c ≡ false → get c (record o { waiting = without_oldest o.waiting }) ≡ get c (record o' { waiting = without_oldest o'.waiting })
  at (ram_byte i) u = h.same (ram_byte i) u
  at waiting_bytes u = ap (λ bs. queue (without_oldest bs)) e
  at (pending_level l) u = h.same (pending_level l) u

emit_alike : (cs : Cells) (o o' : Outside) (b : ℕ) → Alike cs o o' → Alike cs (record o { output = o.output ++ b ∷ [] }) (record o' { output = o'.output ++ b ∷ [] })
emit_alike cs o o' b h = record { size = h.size; levels = h.levels; output = ap (λ bs. bs ++ b ∷ []) h.output; same = at } where
  at : (c : Cell) → cs c ≡ false → get c (record o { output = o.output ++ b ∷ [] }) ≡ get c (record o' { output = o'.output ++ b ∷ [] })
  at (ram_byte i) u = h.same (ram_byte i) u
  at waiting_bytes u = h.same waiting_bytes u
  at (pending_level l) u = h.same (pending_level l) u

clear_alike : (cs : Cells) (o o' : Outside) (w : ℕ) → Alike cs o o' → Alike cs (record o { pending = cleared w o.pending }) (record o' { pending = cleared w o'.pending })
unfolding cleared
clear_alike cs o o' w h = record {
  size = h.size;
  levels = length-unmasked 0 w o.pending ∙ h.levels ∙ sym (length-unmasked 0 w o'.pending);
  output = h.output;
  same = at;
} where
  at : (c : Cell) → cs c ≡ false → get c (record o { pending = cleared w o.pending }) ≡ get c (record o' { pending = cleared w o'.pending })
  at (ram_byte i) u = h.same (ram_byte i) u
  at waiting_bytes u = h.same waiting_bytes u
  at (pending_level l) u =
      ap held (get_or-unmasked 0 w o.pending l ∙ ap (λ p. p && not (bit w (0 + l))) (ap held_of (h.same (pending_level l) u)) ∙ sym (get_or-unmasked 0 w o'.pending l))

expire_alike : (cs : Cells) (o o' : Outside) → Alike cs o o' → Alike (without cs Expiry) (record o { pending = set o.pending timer_level true }) (record o' { pending = set o'.pending timer_level true })
expire_alike cs o o' h = record {
  size = h.size;
  levels = set_sizes o.pending o'.pending timer_level true h.levels;
  output = h.output;
  same = at;
} where
  at : (c : Cell) → without cs Expiry c ≡ false → get c (record o { pending = set o.pending timer_level true }) ≡ get c (record o' { pending = set o'.pending timer_level true })
  at (ram_byte i) u = h.same (ram_byte i) (out_of (cs (ram_byte i)) false refl u)
  at waiting_bytes u = h.same waiting_bytes (out_of (cs waiting_bytes) false refl u)
  at (pending_level l) u =
      ap held (set_alike o.pending o'.pending false h.levels l timer_level true
      (λ n. ap held_of (h.same (pending_level l) (out_of (cs (pending_level l)) (l == timer_level && true) (grind (arith, nat_tests, n)) u))))

-- ---- the law, by the accesses of the action

same : {R : Type 0} (cs : Cells) (a : Action R) (o o' : Outside) → Alike cs o o' → SparesAll cs (touches a o) → Same cs a a o o'
same cs (done x) o o' h u = record { result = refl; touched = refl; observed = refl; alike = h }
same cs (load_word k g) o o' h u =
    let ds = without cs (Read (4 * k)) in
    let ih = subst (λ w. Same ds (g (word_of o.ram k)) (g w) o o') (word_alike cs o o' k h u.0) (same ds (g (word_of o.ram k)) o o' (alike_on cs o o' (Read (4 * k)) (read_covers (4 * k)) h) u.1) in
    record { result = ih.result; touched = ap (λ ts. Read (4 * k) ∷ ts) ih.touched; observed = ih.observed; alike = ih.alike }
same cs (store_word k v a) o o' h u =
    let ih = same (without cs (Write (4 * k))) a _ _ (store_alike cs o o' k v h) u.1 in
    record { result = ih.result; touched = ap (λ ts. Write (4 * k) ∷ ts) ih.touched; observed = ih.observed; alike = ih.alike }
same cs (load_byte i g) o o' h u =
    let ds = without cs (Read (word_address i)) in
    let ih = subst (λ b. Same ds (g (get_or o.ram i 0)) (g b) o o') (spared_byte cs o o' i h u.0 i refl)
    (same ds (g (get_or o.ram i 0)) o o' (alike_on cs o o' (Read (word_address i)) (read_covers (word_address i)) h) u.1) in
    record { result = ih.result; touched = ap (λ ts. Read (word_address i) ∷ ts) ih.touched; observed = ih.observed; alike = ih.alike }
same cs (store_byte i v a) o o' h u =
    let ih = same (without cs (Read (word_address i))) a _ _ (alike_on cs _ _ (Read (word_address i)) (read_covers (word_address i)) (byte_alike cs o o' i v h)) u.1 in
    record { result = ih.result; touched = ap (λ ts. Read (word_address i) ∷ ts) ih.touched; observed = ih.observed; alike = ih.alike }
same cs (take_input g) o o' h u =
    let p : Outside = record o { waiting = without_oldest o.waiting } in
    let p' : Outside = record o' { waiting = without_oldest o'.waiting } in
    let e = waiting_alike cs o o' h u.0 in
    let ds = without cs Input in
    let ih = subst (λ b. Same ds (g (oldest o.waiting)) (g b) p p') (ap oldest e) (same ds (g (oldest o.waiting)) p p' (alike_on cs p p' Input input_covers (take_alike cs o o' h e)) u.1) in
    record { result = ih.result; touched = ap (λ ts. Input ∷ ts) ih.touched; observed = ih.observed; alike = ih.alike }
same cs (count_waiting g) o o' h u =
    let ds = without cs Input in
    let ih = subst (λ n. Same ds (g (length o.waiting)) (g n) o o') (ap length (waiting_alike cs o o' h u.0)) (same ds (g (length o.waiting)) o o' (alike_on cs o o' Input input_covers h) u.1) in
    record { result = ih.result; touched = ap (λ ts. Input ∷ ts) ih.touched; observed = ih.observed; alike = ih.alike }
same cs (emit b a) o o' h u =
    let ih = same cs a _ _ (emit_alike cs o o' b h) u in
    record { result = ih.result; touched = ih.touched; observed = ih.observed; alike = ih.alike }
same cs (ask_levels w g) o o' h u =
    let ds = without cs (Levels w) in
    let ih = subst (λ b. Same ds (g (asked w o.pending)) (g b) o o') (asked_alike cs o o' w h u.0) (same ds (g (asked w o.pending)) o o' (alike_on cs o o' (Levels w) (levels_cover w) h) u.1) in
    record { result = ih.result; touched = ap (λ ts. Levels w ∷ ts) ih.touched; observed = ih.observed; alike = ih.alike }
same cs (clear_levels w a) o o' h u =
    let ih = same (without cs (Levels every_level)) a _ _ (alike_on cs _ _ (Levels every_level) (levels_cover every_level) (clear_alike cs o o' w h)) u.1 in
    record { result = ih.result; touched = ap (λ ts. Levels every_level ∷ ts) ih.touched; observed = ih.observed; alike = ih.alike }
same cs (expire a) o o' h u =
    let ih = same (without cs Expiry) a _ _ (expire_alike cs o o' h) u.1 in
    record { result = ih.result; touched = ap (λ ts. Expiry ∷ ts) ih.touched; observed = ih.observed; alike = ih.alike }
same cs (observe s a) o o' h u =
    let ih = same cs a o o' h u in
    record { result = ih.result; touched = ih.touched; observed = ap (λ ss. s ∷ ss) ih.observed; alike = ih.alike }

-- ---- over the whole footprint

fst_true : (a b : Bool) → (a && b) ≡ true → a ≡ true
fst_true true b h = refl
fst_true false b h = h

spared : (cs : Cells) (ts : List Touch) → Unread cs ts → SparesAll cs ts
spared cs [] u = tt
spared cs (t ∷ ts) u = (here, spared (without cs t) ts (λ c e. rest_false _ _ (sym (is_read-more t ts c) ∙ u c (fst_true _ _ e)))) where
  here : (c : Cell) → hits t c ≡ true → cs c ≡ false
  here c e = by_case (cs c) refl where
    by_case : (b : Bool) → cs c ≡ b → b ≡ false
    by_case false f = refl
    by_case true f = absurd (true≢false (sym (is_read-more t ts c ∙ true_first _ _ e) ∙ u c f))

-- what is left of the set is what it has without what is written
left_is : (cs : Cells) (ts : List Touch) (c : Cell) → left cs ts c ≡ (cs c && not (is_covered ts c))
left_is cs [] (ram_byte i) = sym (and-true _)
left_is cs [] waiting_bytes = sym (and-true _)
left_is cs [] (pending_level l) = sym (ap (λ b. cs (pending_level l) && not b) (and-false (l == timer_level)) ∙ and-true _)
left_is cs (t ∷ ts) c = left_is (without cs t) ts c ∙ regroup (cs c) (covers t c) (is_covered ts c) ∙ ap (λ b. cs c && not b) (sym (is_covered-more t ts c)) where
  regroup : (a b d : Bool) → ((a && not b) && not d) ≡ (a && not (b || d))
  regroup true true d = refl
  regroup true false d = refl
  regroup false b d = refl

remains : (cs : Cells) (ts : List Touch) → Unread cs ts → (c : Cell) → remaining cs ts c ≡ false → left cs ts c ≡ false
remains cs ts u c h = left_is cs ts c ∙ by_case (cs c) refl h where
  by_case : (b : Bool) → cs c ≡ b → (b && not (is_written ts c)) ≡ false → (b && not (is_covered ts c)) ≡ false
  by_case false f e = refl
  by_case true f e = ap not (sym (unread_covered ts c (u c f))) ∙ e

pub framed : {R : Type 0} → FrameOfAction R
framed cs a o o' h u =
    let all = same cs a o o' h (spared cs (touches a o) u) in
    record {
      result = all.result;
      touched = all.touched;
      observed = all.observed;
      alike = record {
        size = all.alike.size;
        levels = all.alike.levels;
        output = all.alike.output;
        same = λ c e. all.alike.same c (remains cs (touches a o) u c e);
      };
    }
