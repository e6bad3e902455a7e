-- What an edit of the poked bytes makes of both orders of words.
use Rattle.std.proofs.Common.{◌≡◌, ◌∙◌, refl, sym, ap, arith, ℕ, ◌+◌, ◌==◌, ◌&&◌, ◌||◌, Bool, true, false, cond, List, [], ◌∷◌, length, Result, Ok, Err, OnOk, OnErr}
use Rattle.std.specs.List.{list_any}
use Rattle.sv8_time.specs.declared.words.WordPoke.{WordPoke}
use Rattle.sv8_time.specs.declared.words.ByAddress.{ByAddress}
use Rattle.sv8_time.specs.Order.{Each, placed, of_major}
use Rattle.sv8_time.specs.Schedule.{BytePoke, has_word, has_poke, word_of, word_count}
use Rattle.sv8_time.specs.Words.{bytes_of_words, is_poked, word_before, is_word_at, by_address_before, SameWords}
use Rattle.std.proofs.lemmas.Bool.{eqb-true, eq-eqb}
use Rattle.sv8_time.proofs.Parts.{each_filter}
use Rattle.sv8_time.proofs.WordPlaces.{keyed_by_address, has_words, word_of_aligned, count_words, same_placed}

pub on_ok : {T E P Q : Type 0} (r : Result T E) → (P → Q) → OnOk r P → OnOk r Q
on_ok (Ok x) f h = f h
on_ok (Err e) f h = tt

pub count_same : (words : List WordPoke) (by_address : List ByAddress) → SameWords words by_address → word_count (bytes_of_words words) ≡ length words
count_same words by_address h = count_words words h.rising h.poked

-- a word has an entry where a byte of it is poked
pub word_stands : (x : WordPoke) (words : List WordPoke) (by_address : List ByAddress) (now : List BytePoke) → SameWords words by_address → bytes_of_words words ≡ now → has_word x.step x.address now ≡ list_any (is_word_at x.step x.address) words
word_stands x words by_address now h e = rw (sym e) (has_words x.step x.address words h.poked ∙ ap (λ a. list_any (is_word_at x.step a) words) (word_of_aligned x.address x.aligned))

pub stored_same : {E : Type 0} (r : Result (Unit {0}) E) (x : WordPoke) (words new : List WordPoke) (by_address new_by : List ByAddress) → is_poked x.bytes ≡ true → SameWords words by_address
    → OnOk r (new ≡ placed word_before x words) → OnOk r (new_by ≡ placed by_address_before (keyed_by_address x) by_address) → OnErr r (new ≡ words) → OnErr r (new_by ≡ by_address) → SameWords new new_by
stored_same (Ok u) x words new by_address new_by e h f g k l = rw (f, g) (same_placed x words by_address e h)
stored_same (Err u) x words new by_address new_by e h f g k l = rw (k, l) h

pub stored_count : {E : Type 0} (r : Result (Unit {0}) E) (x : WordPoke) (words new : List WordPoke) (by_address new_by : List ByAddress) (now : List BytePoke) → SameWords words by_address → SameWords new new_by → bytes_of_words words ≡ now
    → OnOk r (length new ≡ cond (list_any (is_word_at x.step x.address) words) (length words) (length words + 1)) → OnOk r (word_count (bytes_of_words new) ≡ cond (has_word x.step x.address now) (word_count now) (word_count now + 1))
stored_count (Err u) x words new by_address new_by now h k e f = tt
stored_count (Ok u) x words new by_address new_by now h k e f =
    let n : word_count now ≡ length words = ap word_count (sym e) ∙ count_same words by_address h in
    rw (count_same new new_by k, word_stands x words by_address now h e, n) f

pub poked_at : (step : ℕ) (words new : List WordPoke) (by_address : List ByAddress) → SameWords words by_address → new ≡ of_major (λ w. w.step) step words → Each (λ w. is_poked w.bytes ≡ true) new
poked_at step words new by_address h e = rw e (each_filter (λ w. is_poked w.bytes ≡ true) (λ w. w.step == step) words h.poked)

-- a word with a poked byte is one with an entry
pub byte_in_word : (step address : ℕ) (pokes : List BytePoke) → has_poke step address pokes ≡ true → has_word step (word_of address) pokes ≡ true
byte_in_word step address [] e = absurd (cc)
byte_in_word step address (p ∷ pokes) e = go (byte_in_word step address pokes) (p.step == step) (p.address == address) refl refl
  where
    first : p.step ≡ step → p.address ≡ address → has_word step (word_of address) (p ∷ pokes) ≡ true
    first e f =
        let g : (p.step == step) ≡ true = eq-eqb p.step step e in
        let h : (word_of p.address == word_of (word_of address)) ≡ true = eq-eqb (word_of p.address) (word_of (word_of address)) (omega arith) in
        rw (g, h) refl

    or_last : (b : Bool) → (b || true) ≡ true
    or_last true = refl
    or_last false = refl

    rest : has_word step (word_of address) pokes ≡ true → has_word step (word_of address) (p ∷ pokes) ≡ true
    rest h = rw h (or_last (p.step == step && word_of p.address == word_of (word_of address)))

    go : (has_poke step address pokes ≡ true → has_word step (word_of address) pokes ≡ true) → (a b : Bool) → (p.step == step) ≡ a → (p.address == address) ≡ b → has_word step (word_of address) (p ∷ pokes) ≡ true
    go ih true true f g = first (eqb-true p.step step f) (eqb-true p.address address g)
    go ih true false f g = rest (ih (let h : (true && false || has_poke step address pokes) ≡ true = rw (f, g) at e in h))
    go ih false b f g = rest (ih (let h : (false && (p.address == address) || has_poke step address pokes) ≡ true = rw f at e in h))
