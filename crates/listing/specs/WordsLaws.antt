-- Laws of the listing's words: their lengths, and that io's digits are those of the definition. Assumes nothing.
use Rattle.std.specs.Prelude.{◌≡◌, refl, Bool, true, false, cond, List, [], ◌∷◌, ◌++◌, ℕ, zero, suc, ◌+◌, ◌-◌, ◌*◌, ◌/◌, ◌%◌, ◌^◌, ◌≤◌, ◌<◌, leb, ltb, length}
use Rattle.std.proofs.Common.{◌∙◌, mod-eq_of_lt, mod-lt, pow-suc, arith, length-append, lt-ltb, le-ltb, leb-true, leb-false}
use Rattle.std.proofs.Math.Nat.{one-le-pow, pow-le-pow_right}
use Rattle.io.specs.Digits.{last_digits, IsDigitCount}
use Rattle.numbers.specs.PlacedText.{Puts, puts_more, Room, room, room_more, Text, text_room}
use Rattle.model.specs.Words.{most_word, digits_of, decimal_of, word_of, named_of}

-- 0 is `0`, and 407 is `407`
on_paper : (decimal_of 0 ≡ 48 ∷ []) × (decimal_of 407 ≡ 52 ∷ 48 ∷ 55 ∷ [])
unfolding digits_of
on_paper = (refl, refl)

one_or_more : (b : Bool) (x y : ℕ) (front : List ℕ) (most : ℕ) → length front ≤ most → length (cond b (x ∷ []) (front ++ (y ∷ []))) ≤ suc most
one_or_more true x y front most h = omega arith
one_or_more false x y front most h = omega (arith, length-append front (y ∷ []))

pub digits_length : (most n : ℕ) → length (digits_of most n) ≤ most
unfolding digits_of
digits_length zero n = omega arith
digits_length (suc most) n = one_or_more (ltb n 10) _ _ (digits_of most (n / 10)) most (digits_length most (n / 10))

pub word_length : (n after : ℕ) → length (word_of n after) ≤ most_word
word_length n after = omega (arith, length-append (decimal_of n) (after ∷ []), digits_length 20 n)

-- io's digits of a number, as many as the number has
pub decimal_digits : (most k n : ℕ) → IsDigitCount 10 1 n k → k ≤ most → last_digits 10 k n ≡ digits_of most n
unfolding digits_of
decimal_digits zero k n f l = absurd (omega (arith, f.0))
decimal_digits (suc most) zero n f l = absurd (omega (arith, f.0))
decimal_digits (suc most) (suc zero) n f l =
    let h : n < 10 = omega (arith, f.1) in
    simp (mod-eq_of_lt h, lt-ltb n 10 h)
decimal_digits (suc most) (suc (suc k)) n f l =
    let p : 10 ^ suc k ≡ 10 ^ k * 10 = pow-suc 10 k in
    let q : 10 ^ suc (suc k) ≡ 10 ^ suc k * 10 = pow-suc 10 (suc k) in
    let e : suc (suc k) - 1 ≡ suc k = omega arith in
    let d : suc k - 1 ≡ k = omega arith in
    let h : 10 ^ suc k ≤ n = rw e at (f.2 (omega arith)) in
    let g : 0 < 10 ^ k = one-le-pow k 10 (omega arith) in
    let i : last_digits 10 (suc k) (n / 10) ≡ digits_of most (n / 10) =
    decimal_digits most (suc k) (n / 10) (omega arith, omega (arith, f.1), λ _. rw d (omega arith)) (omega arith) in
    let m : n % 10 < 10 = mod-lt n (omega arith) in
    rw (le-ltb n 10 (omega arith), i, lt-ltb (n % 10) 10 m)

pub decimal_most : (n k : ℕ) → n < 2 ^ 64 → IsDigitCount 10 1 n k → k ≤ 20
decimal_most n k h f = go (leb k 20) refl
  where
    go : (b : Bool) → leb k 20 ≡ b → k ≤ 20
    go true e = leb-true k 20 e
    go false e =
        let l : 20 < k = leb-false k 20 e in
        let p : 10 ^ 20 ≤ 10 ^ (k - 1) = pow-le-pow_right {n = 10} (omega arith) {i = 20} {j = k - 1} (omega arith) in
        absurd (omega (arith, f.2 (omega arith)))

-- the digits that io gives for a number
pub record DigitsMade (n k : ℕ) (text : List ℕ) : Type 0 where
  pub fewest : IsDigitCount 10 1 n k
  pub few : k ≤ 20
  pub made : text ≡ last_digits 10 k n
  pub count : length text ≡ k

-- these digits and the byte after them, put one after the other, are a word
pub word_put : {a : List ℕ} {start n after k : ℕ} {text b : List ℕ} {m : ℕ} {c : List ℕ} {e : ℕ}
    → DigitsMade n k text → Text a start text b m → Text b m (after ∷ []) c e → Puts a start (word_of n after) c e
word_put {a} {start} {n} {after} {k} {text} {b} {m} {c} {e} d (Text.put p) (Text.put q) =
    rw (d.made ∙ decimal_digits 20 k n d.fewest d.few) at (puts_more a start text b m (after ∷ []) c e p q)

-- a word that was put, and the room that it uses
pub data Word (a : List ℕ) (start n after : ℕ) (b : List ℕ) (m : ℕ) : Type 0 where
  put : Puts a start (word_of n after) b m → Word a start n after b m

pub word_room : {a : List ℕ} {start n after : ℕ} {b : List ℕ} {m : ℕ} → Word a start n after b m → Room a start b m most_word
word_room {a} {start} {n} {after} {b} {m} (Word.put p) = room a start (word_of n after) b m most_word p (word_length n after)

-- the same for a name and a number
pub data NamedNumber (a : List ℕ) (start : ℕ) (name : List ℕ) (n after : ℕ) (b : List ℕ) (m : ℕ) : Type 0 where
  put : Puts a start (named_of name n after) b m → NamedNumber a start name n after b m

pub named_length : (name : List ℕ) (n after : ℕ) → length (named_of name n after) ≤ length name + most_word
named_length name n after = omega (arith, length-append name (word_of n after), word_length n after)

pub number_room : {a : List ℕ} {start : ℕ} {name : List ℕ} {n after : ℕ} {b : List ℕ} {m : ℕ} → NamedNumber a start name n after b m
    → Room a start b m (length name + most_word)
number_room {a} {start} {name} {n} {after} {b} {m} (NamedNumber.put p) =
    room a start (named_of name n after) b m (length name + most_word) p (named_length name n after)

pub named_put : {a : List ℕ} {start : ℕ} {name : List ℕ} {n after : ℕ} {b : List ℕ} {p : ℕ} {c : List ℕ} {q : ℕ}
    → Text a start name b p → Word b p n after c q → Puts a start (named_of name n after) c q
named_put {a} {start} {b = b} {p} {c} {q} (Text.put h) (Word.put i) = puts_more a start _ b p _ c q h i

-- the room that a text or a word and a word after it use
module _ {a : List ℕ} {start n after : ℕ} {b : List ℕ} {m : ℕ} {c : List ℕ} {e : ℕ} where
  pub named_room : {x : List ℕ} → Text a start x b m → Word b m n after c e → Room a start c e (length x + most_word)
  named_room t w = room_more (text_room t) (word_room w)

  pub words_room : {k next : ℕ} → Word a start k next b m → Word b m n after c e → Room a start c e (most_word + most_word)
  words_room v w = room_more (word_room v) (word_room w)
