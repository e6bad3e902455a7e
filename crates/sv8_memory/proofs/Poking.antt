-- Bytes that are poked one after another.
use Rattle.std.proofs.Common.{◌≡◌, ◌∙◌, ℕ, ◌+◌, ◌%◌, List, [], ◌∷◌, ◌++◌, length, Option, Some, None, refl, sym, ap, arith}
use Rattle.std.specs.List.{slice_index_or}
use Rattle.sv8_time.specs.declared.words.WordPoke.{WordPoke}
use Rattle.sv8_time.specs.Order.{Each}
use Rattle.sv8_time.specs.Schedule.{BytePoke, Schedule, pokes_of_step, requests_of_step}
use Rattle.sv8_time.specs.Words.{IsWordIn, poked_from, poked_bytes, bytes_of_words}
use Rattle.sv8_phys.specs.Contents.{Contents}
use Rattle.sv8_phys.specs.Memory.{ram_size}
use Rattle.sv8_memory.specs.Events.{poked, marked, with_events}
use Rattle.sv8_memory.specs.WordPokes.{byte_poked, word_poked, words_poked, AreInside}

poked_append : (ps qs : List BytePoke) (ram : List ℕ) → poked (ps ++ qs) ram ≡ poked qs (poked ps ram)
poked_append [] qs ram = refl
poked_append (p ∷ ps) qs ram = poked_append ps qs _

-- the first of several bytes, and then the others
poked_first : (step at : ℕ) (b : Option ℕ) (bs : List (Option ℕ)) (ram : List ℕ) → poked (poked_from step at (b ∷ bs)) ram ≡ poked (poked_from step (at + 1) bs) (byte_poked at b ram)
poked_first step at None bs ram = refl
poked_first step at (Some v) bs ram = refl

four : (step at : ℕ) (a b c d : Option ℕ) (ram : List ℕ) → poked (poked_from step at (a ∷ b ∷ c ∷ d ∷ [])) ram ≡ byte_poked (at + 3) d (byte_poked (at + 2) c (byte_poked (at + 1) b (byte_poked at a ram)))
four step at a b c d ram =
    let second : at + 1 + 1 ≡ at + 2 = omega arith in
    let third : at + 1 + 1 + 1 ≡ at + 3 = omega arith in
    poked_first step at a (b ∷ c ∷ d ∷ []) ram ∙ poked_first step (at + 1) b (c ∷ d ∷ []) _ ∙ poked_first step (at + 1 + 1) c (d ∷ []) _ ∙ poked_first step (at + 1 + 1 + 1) d [] _
    ∙ ap (λ k. byte_poked k d (byte_poked (at + 1 + 1) c (byte_poked (at + 1) b (byte_poked at a ram)))) third
    ∙ ap (λ k. byte_poked (at + 3) d (byte_poked k c (byte_poked (at + 1) b (byte_poked at a ram)))) second

of_four : (step at : ℕ) (bytes : List (Option ℕ)) (ram : List ℕ) → length bytes ≡ 4 → poked (poked_from step at bytes) ram ≡ byte_poked (at + 3) (slice_index_or bytes 3 None)
    (byte_poked (at + 2) (slice_index_or bytes 2 None) (byte_poked (at + 1) (slice_index_or bytes 1 None) (byte_poked at (slice_index_or bytes 0 None) ram)))
of_four step at (a ∷ b ∷ c ∷ d ∷ []) ram e = four step at a b c d ram
of_four step at [] ram e = absurd (omega (arith, e))
of_four step at (a ∷ []) ram e = absurd (omega (arith, e))
of_four step at (a ∷ b ∷ []) ram e = absurd (omega (arith, e))
of_four step at (a ∷ b ∷ c ∷ []) ram e = absurd (omega (arith, e))
of_four step at (a ∷ b ∷ c ∷ d ∷ x ∷ xs) ram e = absurd (omega (arith, e))

pub poked_words : (limit : ℕ) (ws : List WordPoke) (ram : List ℕ) → Each (IsWordIn limit) ws → words_poked ws ram ≡ poked (bytes_of_words ws) ram
poked_words limit [] ram h = refl
poked_words limit (w ∷ ws) ram h =
    poked_words limit ws (word_poked w ram) h.1
    ∙ ap (λ r. poked (bytes_of_words ws) r) (sym (of_four w.step w.address w.bytes ram h.0.full))
    ∙ sym (poked_append (poked_bytes w) (bytes_of_words ws) ram)

whole : (pages : ℕ) → ram_size pages % 4 ≡ 0
whole pages = omega arith

pub are_inside : (pages : ℕ) (ws : List WordPoke) → Each (IsWordIn (ram_size pages)) ws → AreInside (ram_size pages) ws
are_inside pages [] h = tt
are_inside pages (w ∷ ws) h = (h.0.word_inside (whole pages), are_inside pages ws h.1)

-- Nothing happens at a step without pokes and requests.
pub quiet : (s : Schedule) (n : ℕ) (m : Contents) → pokes_of_step n s.pokes ≡ [] → requests_of_step n s.requests ≡ [] → m ≡ with_events s n m
unfolding with_events
quiet s n m pokes requests =
    ap (λ ps. record m { ram = poked ps m.ram; pending = marked [] m.pending }) (sym pokes)
    ∙ ap (λ rs. record m { ram = poked (pokes_of_step n s.pokes) m.ram; pending = marked rs m.pending }) (sym requests)
