-- The tokens of a text.
use Rattle.std.proofs.Common.{◌≡◌, ℕ, ◌+◌, ◌-◌, ◌<◌, Bool, true, false, cond, eqb, List, [], ◌∷◌, ◌++◌, length, take, drop, Option, Some, None, ◌&&◌, ◌||◌, refl, sym, ap, subst, ◌∙◌, append_assoc, arith, ◌⊎◌, inl, inr, length-append}
use Rattle.std.specs.List.{AllByRecursion, list_all}
use Rattle.std.proofs.lemmas.Bool.{eqb-true}
use Rattle.std.proofs.lemmas.List.{append-nil, take_at, drop_at, drop-drop}
use Rattle.std.proofs.lemmas.Bool.Decides.{nat_tests}
use Rattle.std.specs.Str.{bytes_eq}
use Rattle.std.proofs.lemmas.Slice.Eq.{bytes_eq-Decides}
use Rattle.sv8_tokens.specs.declared.token.Percent.{Percent as Named}
use Rattle.sv8_tokens.specs.declared.token.Mark.{Mark as Sign}
use Rattle.sv8_tokens.specs.declared.token.Mark.TheVariants as mark
use Rattle.sv8_tokens.specs.Token.{Token, Word, Number, Percent, Mark, Quoted, Local}
use Rattle.sv8_statements.specs.Table.{Row, look_up}
use Rattle.sv8_tokens.specs.Percents.{percents}
use Rattle.sv8_tokens.specs.Spelling.{is_blank, is_letter, is_name_byte, is_hex_digit, span, behind_colon, AllPass, StartsWith, IsNumeral, numeral_zero, numeral_decimal, numeral_hexadecimal, IsQuotable, byte_of, Spells, word_text, reference_text, number_text, percent_text, mark_text, quoted_text, label_text, EndsBefore, IsCutInto, cut_end, cut_comment, cut_token}
use Rattle.sv8_statements.specs.Names.{is_digit, is_reference}
use Rattle.sv8_statements.specs.Steps.{◌>>=◌}
use Rattle.sv8_tokens.specs.Lexing.{numeral_of, mark_of, quote_at, label_of, label_or_number, digits_front, run_front, quoted_front, percent_front, word_front, mark_front, token_front, is_over, next_of}
use Rattle.sv8_statements.specs.Outcome.{Fails}
use Rattle.sv8_tokens.specs.Cutting.{IsOnlyCut, IsCutFault}
use Rattle.sv8_model.specs.declared.refused.Refused.{Refused}
use Rattle.sv8_model.specs.declared.refused.Refused.TheVariants.{OutOfMemory, By}
use Rattle.sv8_statements.specs.declared.fault.LineFault.{LineFault}
use Rattle.sv8_statements.specs.declared.fault.LineFault.TheVariants.{Syntax}
use Rattle.sv8_statements.proofs.Steps.{bind_some, some_is, some}
use Rattle.sv8_tokens.proofs.Words.{other_byte, span-whole, span-passes, span-stops, span-of, numeral-again, numeral-read, numeral-no_reference, reference_tests, label-read, label-again, colon-read, colon-again, mark-read, quote-again, quote-read, passes}

-- ---- the table's names

named_by : (rows : List (Row Named)) (name : List ℕ) (p : Named) → look_up rows name ≡ Some p → AllByRecursion (λ r. AllPass is_name_byte r.name) rows → AllPass is_name_byte name
named_by [] name p h k = absurd cc
named_by (r ∷ rows) name p h k =
    let P : Bool → Type 0 = λ v. bytes_eq r.name name ≡ v → cond v (Some r.value) (look_up rows name) ≡ Some p → AllPass is_name_byte name in
    let all : (v : Bool) → P v = λ v. elim v as P [
      | true ↦ λ e g. subst (λ (y : List ℕ). AllPass is_name_byte y) ((bytes_eq-Decides r.name name).0 e) k.0
      | false ↦ λ e g. named_by rows name p g k.1
    ] in
    all (bytes_eq r.name name) refl h

rows_pass : (rows : List (Row Named)) → list_all (λ r. list_all is_name_byte r.name) rows ≡ true → AllByRecursion (λ r. AllPass is_name_byte r.name) rows
rows_pass [] h = tt
rows_pass (r ∷ rows) h =
    let P : Bool → Type 0 = λ v. list_all is_name_byte r.name ≡ v → (v && list_all (λ q. list_all is_name_byte q.name) rows) ≡ true → AllByRecursion (λ r. AllPass is_name_byte r.name) (r ∷ rows) in
    let all : (v : Bool) → P v = λ v. elim v as P [ true ↦ λ e g. (passes is_name_byte r.name e, rows_pass rows g) | false ↦ λ e g. absurd cc ] in
    all (list_all is_name_byte r.name) refl h

percents_pass : AllByRecursion (λ r. AllPass is_name_byte r.name) percents
unfolding percents
percents_pass = rows_pass percents refl

-- ---- a token that was read

pub record Front (text : List ℕ) (t : Token) (rest : List ℕ) : Type 0 where
  pub word : List ℕ
  pub whole : text ≡ word ++ rest
  pub spelled : Spells t word
  pub ends : EndsBefore t rest

abbrev FrontIs : List ℕ → Token × List ℕ → Type 0
FrontIs text x = Front text x.0 x.1

quoted_front-read : (text : List ℕ) (x : Token × List ℕ) → quoted_front text ≡ Some x → FrontIs (34 ∷ text) x
unfolding quoted_front
quoted_front-read text x h =
    let a = bind_some (quote_at false text) (λ n. Some (Quoted (take n text), drop (n + 1) text)) x h in
    let q = quote-read false text a.0 a.1 in
    let made : Front (34 ∷ text) (Quoted (take a.0 text)) (drop (a.0 + 1) text) = record {
      word = 34 ∷ take a.0 text ++ 34 ∷ [];
      whole = ap (λ (y : List ℕ). 34 ∷ y) (q.parts ∙ sym (append_assoc (take a.0 text) (34 ∷ []) (drop (a.0 + 1) text)));
      spelled = quoted_text (take a.0 text) q.quotable;
      ends = tt;
    } in
    subst (FrontIs (34 ∷ text)) (some_is (Quoted (take a.0 text), drop (a.0 + 1) text) x a.2) made

percent_front-read : (text : List ℕ) (x : Token × List ℕ) → percent_front text ≡ Some x → FrontIs (37 ∷ text) x
unfolding percent_front
percent_front-read text x h =
    let s = span is_name_byte text in
    let a = bind_some (look_up percents s.0) (λ p. Some (Percent p, s.1)) x h in
    let made : Front (37 ∷ text) (Percent a.0) s.1 = record {
      word = 37 ∷ s.0;
      whole = ap (λ (y : List ℕ). 37 ∷ y) (sym (span-whole is_name_byte text));
      spelled = percent_text s.0 a.0 a.1;
      ends = span-stops is_name_byte text;
    } in
    subst (FrontIs (37 ∷ text)) (some_is (Percent a.0, s.1) x a.2) made

-- a number that was read, or a label with its colon
label_or_number-read : (word rest : List ℕ) (o : Option (List ℕ)) (x : Token × List ℕ) → (StartsWith is_name_byte rest → ⊥) → behind_colon rest ≡ o → label_or_number word rest o ≡ Some x → FrontIs (word ++ rest) x
unfolding label_or_number
label_or_number-read word rest (Some behind) x stop e h =
    let a = bind_some (label_of word) (λ d. Some (Local d, behind)) x h in
    let l = label-read word a.0 a.1 in
    let colon = colon-read rest behind e in
    let spelled : Spells (Local a.0) (l.0 ∷ colon.0 ++ 58 ∷ []) = subst (λ (n : ℕ). Spells (Local n) (l.0 ∷ colon.0 ++ 58 ∷ [])) l.3 (label_text l.0 colon.0 l.2 colon.1) in
    let whole : word ++ rest ≡ (l.0 ∷ colon.0 ++ 58 ∷ []) ++ behind = ap (λ (y : List ℕ). y ++ rest) l.1 ∙ ap (λ (y : List ℕ). l.0 ∷ y) (colon.2 ∙ sym (append_assoc colon.0 (58 ∷ []) behind)) in
    let made : Front (word ++ rest) (Local a.0) behind = record { word = l.0 ∷ colon.0 ++ 58 ∷ []; whole = whole; spelled = spelled; ends = tt } in
    subst (FrontIs (word ++ rest)) (some_is (Local a.0, behind) x a.2) made
label_or_number-read word rest None x stop e h =
    let a = bind_some (numeral_of word) (λ n. Some (Number n, rest)) x h in
    let n = numeral-read word a.0 a.1 in
    let made : Front (word ++ rest) (Number a.0) rest = record { word = word; whole = refl; spelled = number_text word a.0 n.0 n.1; ends = (stop, e) } in
    subst (FrontIs (word ++ rest)) (some_is (Number a.0, rest) x a.2) made

digits_front-read : (word rest : List ℕ) (x : Token × List ℕ) → (StartsWith is_name_byte rest → ⊥) → digits_front word rest ≡ Some x → FrontIs (word ++ rest) x
unfolding digits_front
digits_front-read word rest x stop h =
    let P : Bool → Type 0 = λ v. is_reference word ≡ v → cond v (Some (Word word, rest)) (label_or_number word rest (behind_colon rest)) ≡ Some x → FrontIs (word ++ rest) x in
    let all : (v : Bool) → P v = λ v. elim v as P [
      | true ↦ λ e k.
          let made : Front (word ++ rest) (Word word) rest = record { word = word; whole = refl; spelled = reference_text word e; ends = stop } in
          subst (FrontIs (word ++ rest)) (some_is (Word word, rest) x k) made
      | false ↦ λ e k. label_or_number-read word rest (behind_colon rest) x stop refl k
    ] in
    all (is_reference word) refl h

run_front-read : (word rest : List ℕ) (x : Token × List ℕ) → AllPass is_name_byte word → (StartsWith is_name_byte rest → ⊥) → run_front word rest ≡ Some x → FrontIs (word ++ rest) x
unfolding run_front
run_front-read [] rest x pass stop h = absurd cc
run_front-read (c ∷ cs) rest x pass stop h =
    let P : Bool → Type 0 = λ v. is_digit c ≡ v → cond v (digits_front (c ∷ cs) rest) (Some (Word (c ∷ cs), rest)) ≡ Some x → FrontIs (c ∷ cs ++ rest) x in
    let all : (v : Bool) → P v = λ v. elim v as P [
      | true ↦ λ d k. digits_front-read (c ∷ cs) rest x stop k
      | false ↦ λ d k.
          let made : Front (c ∷ cs ++ rest) (Word (c ∷ cs)) rest = record { word = c ∷ cs; whole = refl; spelled = word_text c cs d pass; ends = stop } in
          subst (FrontIs (c ∷ cs ++ rest)) (some_is (Word (c ∷ cs), rest) x k) made
    ] in
    all (is_digit c) refl h

word_front-read : (text : List ℕ) (x : Token × List ℕ) → word_front text ≡ Some x → FrontIs text x
unfolding word_front
word_front-read text x h =
    let s = span is_name_byte text in
    subst (λ (y : List ℕ). FrontIs y x) (span-whole is_name_byte text) (run_front-read s.0 s.1 x (span-passes is_name_byte text) (span-stops is_name_byte text) h)

mark_front-read : (c : ℕ) (rest : List ℕ) (o : Option Sign) (x : Token × List ℕ) → mark_of c ≡ o → mark_front o rest (c ∷ rest) ≡ Some x → FrontIs (c ∷ rest) x
mark_front-read c rest (Some m) x e h =
    let made : Front (c ∷ rest) (Mark m) rest = record { word = byte_of m ∷ []; whole = ap (λ (y : ℕ). y ∷ rest) (mark-read c m e); spelled = mark_text m; ends = tt } in
    subst (FrontIs (c ∷ rest)) (some_is (Mark m, rest) x h) made
mark_front-read c rest None x e h = word_front-read (c ∷ rest) x h

pub token_front-read : (text : List ℕ) (x : Token × List ℕ) → token_front text ≡ Some x → FrontIs text x
unfolding token_front
token_front-read [] x h = absurd cc
token_front-read (c ∷ rest) x h =
    let P : Bool → Type 0 = λ v. eqb c 34 ≡ v → cond v (quoted_front rest) (cond (eqb c 37) (percent_front rest) (mark_front (mark_of c) rest (c ∷ rest))) ≡ Some x → FrontIs (c ∷ rest) x in
    let Q : Bool → Type 0 = λ v. eqb c 37 ≡ v → cond v (percent_front rest) (mark_front (mark_of c) rest (c ∷ rest)) ≡ Some x → FrontIs (c ∷ rest) x in
    let each : (v : Bool) → Q v = λ v. elim v as Q [
      | true ↦ λ e k. subst (λ (y : ℕ). FrontIs (y ∷ rest) x) (sym (eqb-true c 37 e)) (percent_front-read rest x k)
      | false ↦ λ e k. mark_front-read c rest (mark_of c) x refl k
    ] in
    let all : (v : Bool) → P v = λ v. elim v as P [
      | true ↦ λ e k. subst (λ (y : ℕ). FrontIs (y ∷ rest) x) (sym (eqb-true c 34 e)) (quoted_front-read rest x k)
      | false ↦ λ e k. each (eqb c 37) refl k
    ] in
    all (eqb c 34) refl h

-- ---- a token that is spelled

-- a first byte that begins a token
pub record Begins (word : List ℕ) : Type 0 where
  pub first : ℕ
  pub others : List ℕ
  pub is : word ≡ first ∷ others
  pub blank : is_blank first ≡ false
  pub comment : eqb first 33 ≡ false

name_blank : (c : ℕ) → is_name_byte c ≡ true → is_blank c ≡ false
name_blank c h = rw (other_byte is_name_byte c 32 h refl, other_byte is_name_byte c 9 h refl) refl

digit_name : (c : ℕ) → is_digit c ≡ true → is_name_byte c ≡ true
digit_name c h = elim (is_letter c) as (λ v. (v || is_digit c || eqb c 95 || eqb c 46 || eqb c 36) ≡ true) [ true ↦ refl | false ↦ rw h refl ]

begins_name : (c : ℕ) (cs : List ℕ) → is_name_byte c ≡ true → Begins (c ∷ cs)
begins_name c cs h = record { first = c; others = cs; is = refl; blank = name_blank c h; comment = other_byte is_name_byte c 33 h refl }

begins_mark : (m : Sign) → Begins (byte_of m ∷ [])
begins_mark m = elim m as (λ n. Begins (byte_of n ∷ [])) [
  | mark.Comma ↦ record { first = _; others = []; is = refl; blank = refl; comment = refl }
  | mark.Colon ↦ record { first = _; others = []; is = refl; blank = refl; comment = refl }
  | mark.Plus ↦ record { first = _; others = []; is = refl; blank = refl; comment = refl }
  | mark.Minus ↦ record { first = _; others = []; is = refl; blank = refl; comment = refl }
  | mark.OpenBracket ↦ record { first = _; others = []; is = refl; blank = refl; comment = refl }
  | mark.CloseBracket ↦ record { first = _; others = []; is = refl; blank = refl; comment = refl }
  | mark.OpenParen ↦ record { first = _; others = []; is = refl; blank = refl; comment = refl }
  | mark.CloseParen ↦ record { first = _; others = []; is = refl; blank = refl; comment = refl }
]

begins_numeral : (text : List ℕ) (n : ℕ) → IsNumeral text n → Begins text
begins_numeral _ _ numeral_zero = begins_name 48 [] refl
begins_numeral _ _ (numeral_decimal c cs d z ds) = begins_name c cs (digit_name c d)
begins_numeral _ _ (numeral_hexadecimal c cs ds) = begins_name 48 (120 ∷ c ∷ cs) refl

begins_reference : (text : List ℕ) → is_reference text ≡ true → Begins text
begins_reference text e =
    let r = reference_tests text e in
    subst Begins (sym r.2) (begins_name r.0 (r.1 ∷ []) (digit_name r.0 r.3))

pub begins : (t : Token) (word : List ℕ) → Spells t word → Begins word
begins _ _ (word_text c cs d pass) = begins_name c cs pass.0
begins _ _ (reference_text text e) = begins_reference text e
begins _ _ (number_text text n num lt) = begins_numeral text n num
begins _ _ (percent_text name p found) = record { first = 37; others = name; is = refl; blank = refl; comment = refl }
begins _ _ (mark_text m) = begins_mark m
begins _ _ (quoted_text text q) = record { first = 34; others = text ++ 34 ∷ []; is = refl; blank = refl; comment = refl }
begins _ _ (label_text d gap h pass) = begins_name d (gap ++ 58 ∷ []) (digit_name d h)

hex_byte : (c : ℕ) → is_hex_digit c ≡ true → is_name_byte c ≡ true
hex_byte c h = grind (arith, nat_tests)

hex_name : (cs : List ℕ) → AllPass is_hex_digit cs → AllPass is_name_byte cs
hex_name [] h = tt
hex_name (c ∷ cs) h = (hex_byte c h.0, hex_name cs h.1)

digits_name : (cs : List ℕ) → AllPass is_digit cs → AllPass is_name_byte cs
digits_name [] h = tt
digits_name (c ∷ cs) h = (digit_name c h.0, digits_name cs h.1)

numeral_name : (text : List ℕ) (n : ℕ) → IsNumeral text n → AllPass is_name_byte text
numeral_name _ _ numeral_zero = (refl, tt)
numeral_name _ _ (numeral_decimal c cs d z ds) = (digit_name c d, digits_name cs ds)
numeral_name _ _ (numeral_hexadecimal c cs ds) = (refl, (refl, hex_name (c ∷ cs) ds))

numeral_digit : (text : List ℕ) (n : ℕ) → IsNumeral text n → (c : ℕ) × (cs : List ℕ) × (text ≡ c ∷ cs) × (is_digit c ≡ true)
numeral_digit _ _ numeral_zero = (48, [], refl, refl)
numeral_digit _ _ (numeral_decimal c cs d z ds) = (c, cs, refl, d)
numeral_digit _ _ (numeral_hexadecimal c cs ds) = (48, 120 ∷ c ∷ cs, refl, refl)

mark_no_name : (m : Sign) → is_name_byte (byte_of m) ≡ true → ⊥
mark_no_name mark.Comma h = cc
mark_no_name mark.Colon h = cc
mark_no_name mark.Plus h = cc
mark_no_name mark.Minus h = cc
mark_no_name mark.OpenBracket h = cc
mark_no_name mark.CloseBracket h = cc
mark_no_name mark.OpenParen h = cc
mark_no_name mark.CloseParen h = cc

-- a name's bytes are no marks
no_mark : (c : ℕ) (o : Option Sign) → is_name_byte c ≡ true → mark_of c ≡ o → o ≡ None
no_mark c None h e = refl
no_mark c (Some m) h e =
    let f : is_name_byte (byte_of m) ≡ true = subst (λ (y : ℕ). is_name_byte y ≡ true) (mark-read c m e) h in
    absurd (mark_no_name m f)

word_front-again : (word rest : List ℕ) (x : Token × List ℕ) → AllPass is_name_byte word → (StartsWith is_name_byte rest → ⊥) → run_front word rest ≡ Some x → word_front (word ++ rest) ≡ Some x
unfolding word_front
word_front-again word rest x pass stop e = rw (span-of is_name_byte word rest pass stop) e

named_front : (c : ℕ) (cs rest : List ℕ) (o : Option (Token × List ℕ)) → is_name_byte c ≡ true → word_front (c ∷ cs ++ rest) ≡ o → token_front (c ∷ cs ++ rest) ≡ o
unfolding token_front
named_front c cs rest o h e = rw (other_byte is_name_byte c 34 h refl, other_byte is_name_byte c 37 h refl, no_mark c (mark_of c) h refl) e

mark_front-again : (m : Sign) (rest : List ℕ) → token_front (byte_of m ∷ rest) ≡ Some (Mark m, rest)
unfolding token_front mark_of
mark_front-again mark.Comma rest = refl
mark_front-again mark.Colon rest = refl
mark_front-again mark.Plus rest = refl
mark_front-again mark.Minus rest = refl
mark_front-again mark.OpenBracket rest = refl
mark_front-again mark.CloseBracket rest = refl
mark_front-again mark.OpenParen rest = refl
mark_front-again mark.CloseParen rest = refl

plain_run : (c : ℕ) (cs rest : List ℕ) → is_digit c ≡ false → run_front (c ∷ cs) rest ≡ Some (Word (c ∷ cs), rest)
unfolding run_front
plain_run c cs rest d = rw d refl

digit_run : (c : ℕ) (cs rest : List ℕ) (x : Token × List ℕ) → is_digit c ≡ true → digits_front (c ∷ cs) rest ≡ Some x → run_front (c ∷ cs) rest ≡ Some x
unfolding run_front
digit_run c cs rest x d e = rw d e

number_run : (word rest : List ℕ) (n : ℕ) → is_reference word ≡ false → numeral_of word ≡ Some n → behind_colon rest ≡ None → digits_front word rest ≡ Some (Number n, rest)
unfolding digits_front label_or_number
number_run word rest n other e stop = rw (other, stop, e) refl

number_front : (text rest : List ℕ) (n : ℕ) (c : ℕ) (cs : List ℕ) → text ≡ c ∷ cs → is_digit c ≡ true → IsNumeral text n → AllPass is_name_byte text → numeral_of text ≡ Some n → EndsBefore (Number n) rest → token_front (text ++ rest) ≡ Some (Number n, rest)
number_front text rest n c cs is d num pass e ends =
    let run : digits_front (c ∷ cs) rest ≡ Some (Number n, rest) = ap (λ (y : List ℕ). digits_front y rest) (sym is) ∙ number_run text rest n (numeral-no_reference text n num) e ends.1 in
    let pass' : AllPass is_name_byte (c ∷ cs) = subst (λ (y : List ℕ). AllPass is_name_byte y) is pass in
    ap (λ (y : List ℕ). token_front (y ++ rest)) is ∙ named_front c cs rest (Some (Number n, rest)) (digit_name c d) (word_front-again (c ∷ cs) rest (Number n, rest) pass' ends.0 (digit_run c cs rest (Number n, rest) d run))

side_name : (c : ℕ) → (eqb c 102 || eqb c 98) ≡ true → is_name_byte c ≡ true
side_name c h = grind (arith, nat_tests)

reference_run : (word rest : List ℕ) → is_reference word ≡ true → digits_front word rest ≡ Some (Word word, rest)
unfolding digits_front
reference_run word rest e = rw e refl

reference_front : (text rest : List ℕ) → is_reference text ≡ true → (StartsWith is_name_byte rest → ⊥) → token_front (text ++ rest) ≡ Some (Word text, rest)
reference_front text rest e stop =
    let r = reference_tests text e in
    let pass : AllPass is_name_byte (r.0 ∷ r.1 ∷ []) = (digit_name r.0 r.3, (side_name r.1 r.4, tt)) in
    let run : digits_front (r.0 ∷ r.1 ∷ []) rest ≡ Some (Word text, rest) = ap (λ (y : List ℕ). digits_front y rest) (sym r.2) ∙ reference_run text rest e in
    ap (λ (y : List ℕ). token_front (y ++ rest)) r.2 ∙ named_front r.0 (r.1 ∷ []) rest (Some (Word text, rest)) (digit_name r.0 r.3) (word_front-again (r.0 ∷ r.1 ∷ []) rest (Word text, rest) pass stop (digit_run r.0 (r.1 ∷ []) rest (Word text, rest) r.3 run))

blank_no_name : (c : ℕ) → is_blank c ≡ true → is_name_byte c ≡ true → ⊥
blank_no_name c h k = let e = name_blank c k in cc

gap_stop : (gap rest : List ℕ) → AllPass is_blank gap → StartsWith is_name_byte (gap ++ 58 ∷ rest) → ⊥
gap_stop [] rest pass h = cc
gap_stop (c ∷ gap) rest pass h = blank_no_name c pass.0 h

label_run : (d : ℕ) (gap rest : List ℕ) → is_digit d ≡ true → AllPass is_blank gap → digits_front (d ∷ []) (gap ++ 58 ∷ rest) ≡ Some (Local (d - 48), rest)
unfolding digits_front label_or_number
label_run d gap rest h pass = rw (colon-again gap rest pass, label-again d h) refl

label_front : (d : ℕ) (gap rest : List ℕ) → is_digit d ≡ true → AllPass is_blank gap → token_front ((d ∷ gap ++ 58 ∷ []) ++ rest) ≡ Some (Local (d - 48), rest)
label_front d gap rest h pass =
    let x : Token × List ℕ = (Local (d - 48), rest) in
    let name : AllPass is_name_byte (d ∷ []) = (digit_name d h, tt) in
    ap (λ (y : List ℕ). token_front (d ∷ y)) (append_assoc gap (58 ∷ []) rest)
    ∙ named_front d [] (gap ++ 58 ∷ rest) (Some x) (digit_name d h) (word_front-again (d ∷ []) (gap ++ 58 ∷ rest) x name (gap_stop gap rest pass) (digit_run d [] (gap ++ 58 ∷ rest) x h (label_run d gap rest h pass)))

percent_front-again : (name rest : List ℕ) (p : Named) → look_up percents name ≡ Some p → AllPass is_name_byte name → (StartsWith is_name_byte rest → ⊥) → token_front (37 ∷ name ++ rest) ≡ Some (Percent p, rest)
unfolding token_front percent_front
percent_front-again name rest p found pass stop = rw (span-of is_name_byte name rest pass stop, found) refl

drop_more : (n : ℕ) (xs : List ℕ) → drop 1 (drop n xs) ≡ drop (n + 1) xs
drop_more n xs = drop-drop 1 n xs

-- the names of the table are names
percents_names : (name : List ℕ) (p : Named) → look_up percents name ≡ Some p → AllPass is_name_byte name
percents_names name p found = named_by percents name p found percents_pass

quoted_front-again : (text rest : List ℕ) → IsQuotable text → token_front (34 ∷ (text ++ 34 ∷ []) ++ rest) ≡ Some (Quoted text, rest)
unfolding token_front quoted_front
quoted_front-again text rest q =
    let joined : (text ++ 34 ∷ []) ++ rest ≡ text ++ 34 ∷ rest = append_assoc text (34 ∷ []) rest in
    let front : take (length text) (text ++ 34 ∷ rest) ≡ text = take_at text (34 ∷ rest) (length text) refl in
    let back : drop (length text + 1) (text ++ 34 ∷ rest) ≡ rest = sym (drop_more (length text) (text ++ 34 ∷ rest)) ∙ ap (λ (y : List ℕ). drop 1 y) (drop_at text (34 ∷ rest) (length text) refl) in
    ap (λ (y : List ℕ). quoted_front y) joined ∙ rw (quote-again text rest q, front, back) refl

pub token_front-again : (t : Token) (word rest : List ℕ) → Spells t word → EndsBefore t rest → token_front (word ++ rest) ≡ Some (t, rest)
token_front-again _ _ rest (word_text c cs d pass) stop = named_front c cs rest _ pass.0 (word_front-again (c ∷ cs) rest (Word (c ∷ cs), rest) pass stop (plain_run c cs rest d))
token_front-again _ _ rest (reference_text text e) stop = reference_front text rest e stop
token_front-again _ _ rest (number_text text n num lt) stop =
    let d = numeral_digit text n num in
    number_front text rest n d.0 d.1 d.2 d.3 num (numeral_name text n num) (numeral-again text n num lt) stop
token_front-again _ _ rest (percent_text name p found) stop = percent_front-again name rest p found (percents_names name p found) stop
token_front-again _ _ rest (mark_text m) stop = mark_front-again m rest
token_front-again _ _ rest (quoted_text text q) stop = quoted_front-again text rest q
token_front-again _ _ rest (label_text d gap h pass) stop = label_front d gap rest h pass

-- ---- the next token

blank_over : (text : List ℕ) → is_over text ≡ true → (text ≡ []) ⊎ ((cs : List ℕ) × (text ≡ 33 ∷ cs))
blank_over [] h = inl refl
blank_over (c ∷ cs) h = inr (cs, ap (λ (y : ℕ). y ∷ cs) (eqb-true c 33 h))

cut_over : (text gap rest : List ℕ) → text ≡ gap ++ rest → AllPass is_blank gap → (rest ≡ []) ⊎ ((cs : List ℕ) × (rest ≡ 33 ∷ cs)) → IsCutInto text []
cut_over text gap rest e pass (inl none) = subst (λ (y : List ℕ). IsCutInto y []) (sym (e ∙ ap (λ (y : List ℕ). gap ++ y) none ∙ append-nil gap)) (cut_end gap pass)
cut_over text gap rest e pass (inr p) = subst (λ (y : List ℕ). IsCutInto y []) (sym (e ∙ ap (λ (y : List ℕ). gap ++ y) p.1)) (cut_comment gap p.0 pass)

abbrev Found : Type 0
Found = Option (Token × List ℕ)

-- what was found at the front of a text
abbrev pub IsNext : List ℕ → Option (Token × List ℕ) → Type 0
IsNext text None = IsCutInto text []
IsNext text (Some x) = (gap : List ℕ) × AllPass is_blank gap × (after : List ℕ) × (text ≡ gap ++ after) × Front after x.0 x.1

pub next-read : (text : List ℕ) (o : Option (Token × List ℕ)) → next_of text ≡ Some o → IsNext text o
unfolding next_of
next-read text o h =
    let s = span is_blank text in
    let whole : text ≡ s.0 ++ s.1 = sym (span-whole is_blank text) in
    let pass = span-passes is_blank text in
    let P : Bool → Type 0 = λ v. is_over s.1 ≡ v → cond v (some {A = Found} None) (token_front s.1 >>= λ x. Some (Some x)) ≡ Some o → IsNext text o in
    let all : (v : Bool) → P v = λ v. elim v as P [
      | true ↦ λ e g. subst (IsNext text) (some_is None o g) (cut_over text s.0 s.1 whole pass (blank_over s.1 e))
      | false ↦ λ e g.
          let a = bind_some (token_front s.1) (λ x. Some (Some x)) o g in
          subst (IsNext text) (some_is (Some a.0) o a.2) (s.0, pass, s.1, whole, token_front-read s.1 a.0 a.1)
    ] in
    all (is_over s.1) refl h

pub cut_next : (text : List ℕ) (x : Token × List ℕ) (ts : List Token) → IsNext text (Some x) → IsCutInto x.1 ts → IsCutInto text (x.0 ∷ ts)
cut_next text x ts n rest =
    let f = n.4 in
    subst (λ (y : List ℕ). IsCutInto y (x.0 ∷ ts)) (sym (n.3 ∙ ap (λ (y : List ℕ). n.0 ++ y) f.whole)) (cut_token n.0 f.word x.1 x.0 ts n.1 f.spelled f.ends rest)

pub word_some : (t : Token) (word : List ℕ) → Spells t word → 0 < length word
word_some t word s = let b = begins t word s in let e = ap length b.is in omega arith

pub next-shorter : (text : List ℕ) (x : Token × List ℕ) → IsNext text (Some x) → length x.1 < length text
next-shorter text x n =
    let f = n.4 in
    let some_bytes = word_some x.0 f.word f.spelled in
    let e = ap length n.3 in
    let g = ap length f.whole in
    omega (arith, length-append n.0 n.2, length-append f.word x.1)

-- what a cut of the text says of the next token
abbrev pub Agrees : List ℕ → List Token → Type 0
Agrees text [] = next_of text ≡ Some None
Agrees text (t ∷ ts) = (rest : List ℕ) × (next_of text ≡ Some (Some (t, rest))) × IsCutInto rest ts

blank_stop : (c : ℕ) (cs : List ℕ) → is_blank c ≡ false → StartsWith is_blank (c ∷ cs) → ⊥
blank_stop c cs clear h = cc

next_end : (gap : List ℕ) → AllPass is_blank gap → next_of gap ≡ Some None
unfolding next_of
next_end gap pass =
    let s : span is_blank gap ≡ (gap, []) = ap (span is_blank) (sym (append-nil gap)) ∙ span-of is_blank gap [] pass (λ h. h) in
    rw s refl

next_comment : (gap text : List ℕ) → AllPass is_blank gap → next_of (gap ++ 33 ∷ text) ≡ Some None
unfolding next_of
next_comment gap text pass = rw (span-of is_blank gap (33 ∷ text) pass (blank_stop 33 text refl)) refl

next_token : (gap after : List ℕ) (c : ℕ) (cs : List ℕ) (x : Token × List ℕ) → AllPass is_blank gap → after ≡ c ∷ cs → is_blank c ≡ false → eqb c 33 ≡ false → token_front after ≡ Some x → next_of (gap ++ after) ≡ Some (Some x)
unfolding next_of
next_token gap after c cs x pass is blank comment e =
    let e' : token_front (c ∷ cs) ≡ Some x = ap token_front (sym is) ∙ e in
    ap (λ (y : List ℕ). next_of (gap ++ y)) is ∙ rw (span-of is_blank gap (c ∷ cs) pass (blank_stop c cs blank), comment, e') refl

pub next-again : (text : List ℕ) (ts : List Token) → IsCutInto text ts → Agrees text ts
next-again _ _ (cut_end gap pass) = next_end gap pass
next-again _ _ (cut_comment gap text pass) = next_comment gap text pass
next-again _ _ (cut_token gap word rest t ts pass spelled ends d) =
    let b = begins t word spelled in
    (rest, next_token gap (word ++ rest) b.first (b.others ++ rest) (t, rest) pass (ap (λ (y : List ℕ). y ++ rest) b.is) b.blank b.comment (token_front-again t word rest spelled ends), d)

-- ---- one cut

abbrev found : Token → List ℕ → Token × List ℕ
found t rest = (t, rest)

pub one_cut : (ts us : List Token) (text : List ℕ) → IsCutInto text ts → IsCutInto text us → us ≡ ts
one_cut [] [] text a b = refl
one_cut [] (u ∷ us) text a b = let p = next-again text [] a in let q = next-again text (u ∷ us) b in let r = q.1 in absurd cc
one_cut (t ∷ ts) [] text a b = let p = next-again text (t ∷ ts) a in let q = next-again text [] b in let r = p.1 in absurd cc
one_cut (t ∷ ts) (u ∷ us) text a b =
    let p = next-again text (t ∷ ts) a in
    let q = next-again text (u ∷ us) b in
    let e : found t p.0 ≡ found u q.0 = some_is (found t p.0) (found u q.0) (some_is (some (found t p.0)) (some (found u q.0)) (sym p.1 ∙ q.1)) in
    let heads : t ≡ u = ap (λ (x : Token × List ℕ). x.0) e in
    let rests : p.0 ≡ q.0 = ap (λ (x : Token × List ℕ). x.1) e in
    let tail = one_cut ts us p.0 p.2 (subst (λ (y : List ℕ). IsCutInto y us) (sym rests) q.2) in
    ap (λ (x : Token). x ∷ us) (sym heads) ∙ ap (λ (x : List Token). t ∷ x) tail

-- ---- the loop over a text

-- what holds after some tokens: the cuts of the rest are those of the text, behind them
pub record Keeps (text : List ℕ) (front : List Token) (rest : List ℕ) : Type 0 where
  pub whole : (ts : List Token) → IsCutInto rest ts → IsCutInto text (front ++ ts)
  pub only : (ts : List Token) → IsCutInto text ts → (us : List Token) × (ts ≡ front ++ us) × IsCutInto rest us

pub keeps_start : (text : List ℕ) → Keeps text [] text
keeps_start text = record { whole = λ ts d. d; only = λ ts d. (ts, refl, d) }

after_step : (rest after : List ℕ) (t : Token) (us : List Token) → next_of rest ≡ Some (Some (t, after)) → IsCutInto rest us → (vs : List Token) × (us ≡ t ∷ vs) × IsCutInto after vs
after_step rest after t [] e d = let p = next-again rest [] d in absurd cc
after_step rest after t (u ∷ us) e d =
    let q = next-again rest (u ∷ us) d in
    let both : found t after ≡ found u q.0 = some_is (found t after) (found u q.0) (some_is (some (found t after)) (some (found u q.0)) (sym e ∙ q.1)) in
    (us, ap (λ (x : Token × List ℕ). x.0 ∷ us) (sym both), subst (λ (x : Token × List ℕ). IsCutInto x.1 us) (sym both) q.2)

pub keeps_more : (text rest after : List ℕ) (front grown : List Token) (t : Token) → next_of rest ≡ Some (Some (t, after)) → grown ≡ front ++ t ∷ [] → Keeps text front rest → Keeps text grown after
keeps_more text rest after front grown t e g k = record {
  whole = λ ts d. subst (λ (us : List Token). IsCutInto text us) (sym (ap (λ (us : List Token). us ++ ts) g ∙ append_assoc front (t ∷ []) ts)) (k.whole (t ∷ ts) (cut_next rest (t, after) ts (next-read rest (Some (t, after)) e) d));
  only = λ ts d.
      let p = k.only ts d in
      let q = after_step rest after t p.0 e p.2 in
      (q.0, p.1 ∙ ap (λ (us : List Token). front ++ us) q.1 ∙ sym (ap (λ (us : List Token). us ++ q.0) g ∙ append_assoc front (t ∷ []) q.0), q.2);
}

pub keeps_end : (text rest : List ℕ) (front : List Token) → next_of rest ≡ Some None → Keeps text front rest → IsOnlyCut text front
keeps_end text rest front e k =
    let over = next-read rest None e in
    record {
      cut = subst (λ (us : List Token). IsCutInto text us) (append-nil front) (k.whole [] over);
      only = λ us d.
          let p = k.only us d in
          p.1 ∙ ap (λ (vs : List Token). front ++ vs) (one_cut [] p.0 rest over p.2) ∙ append-nil front;
    }

no_step : (rest : List ℕ) (us : List Token) → next_of rest ≡ None → IsCutInto rest us → ⊥
no_step rest [] e d = let p = next-again rest [] d in cc
no_step rest (u ∷ us) e d = let q = next-again rest (u ∷ us) d in let p = q.1 in cc

pub keeps_fault : (text rest : List ℕ) (front : List Token) (e : Refused LineFault) → Fails e (next_of rest) → Keeps text front rest → IsCutFault text e
keeps_fault text rest front OutOfMemory h k = tt
keeps_fault text rest front (By Syntax) h k = λ us d. let p = k.only us d in no_step rest p.0 h p.2
keeps_fault text rest front _ h k = h

pub step_shorter : (rest after : List ℕ) (t : Token) → next_of rest ≡ Some (Some (t, after)) → length after < length rest
step_shorter rest after t e = next-shorter rest (t, after) (next-read rest (Some (t, after)) e)
