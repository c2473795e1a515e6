-- A text stored in a list from an index on. Assumes nothing.
use Rattle.std.specs.Prelude.{◌≡◌, refl, List, [], ◌∷◌, ◌++◌, ℕ, suc, ◌+◌, ◌≤◌, ◌<◌, length, get_or, take, drop, set}
use Rattle.std.proofs.Common.{sym, ap, ◌∙◌, add-suc, suc-add, add-zero, add-one, arith, length-append, take-suc, take_at, take_all, length-take-le}
use Rattle.std.proofs.lemmas.List.Edits.{sets, sets-eq}
use Rattle.std.proofs.Math.Seq.{length-sets}
use Rattle.model.specs.Numbers.{placed}

-- `after` is `before` with the text placed at `at`, and `end` is the index after the text
abbrev pub Puts : List ℕ → ℕ → List ℕ → List ℕ → ℕ → Type 0
Puts before at text after end = (end ≡ at + length text) × (after ≡ placed before at text)

pub length_placed : (list : List ℕ) (at : ℕ) (text : List ℕ) → length (placed list at text) ≡ length list
unfolding placed
length_placed list at text = length-sets list at text

-- if there is room, the text is there, and everything else is unchanged
pub placed_there : (list : List ℕ) (at : ℕ) (text : List ℕ) → at + length text ≤ length list
    → placed list at text ≡ take at list ++ text ++ drop (at + length text) list
unfolding placed
placed_there list at text h = sets-eq text list at h

-- a text placed at the start is the list's first bytes
pub puts_first : (a text b : List ℕ) (end : ℕ) → Puts a 0 text b end → length text ≤ length a → take end b ≡ text
puts_first a text b end p h =
    let z : 0 + length text ≡ length text = omega arith in
    ap (take end) (p.1 ∙ placed_there a 0 text (omega arith)) ∙ take_at text (drop (0 + length text) a) end (sym z ∙ sym p.0)

pub placed_none : (list : List ℕ) (at : ℕ) → placed list at [] ≡ list
unfolding placed
placed_none list at = refl

-- one text placed after another is both placed together
pub placed_more : (list : List ℕ) (at : ℕ) (a b : List ℕ) → placed (placed list at a) (at + length a) b ≡ placed list at (a ++ b)
unfolding placed
placed_more list at [] b = ap (λ (k : ℕ). sets list k b) (add-zero at)
placed_more list at (x ∷ a) b =
    ap (λ (k : ℕ). sets (sets (set list at x) (suc at) a) k b) (add-suc at (length a) ∙ sym (suc-add at (length a)))
    ∙ placed_more (set list at x) (suc at) a b

-- a turn of the loop that copies a text
pub placed_turn : (list : List ℕ) (at : ℕ) (text : List ℕ) (i : ℕ) → i < length text
    → set (placed list at (take i text)) (at + i) (get_or text i 0) ≡ placed list at (take (i + 1) text)
unfolding placed
placed_turn list at text i l =
    let e : at + i ≡ at + length (take i text) = ap (λ (k : ℕ). at + k) (sym (length-take-le i text (omega arith))) in
    ap (λ (k : ℕ). set (placed list at (take i text)) k (get_or text i 0)) e
    ∙ placed_more list at (take i text) (get_or text i 0 ∷ [])
    ∙ ap (placed list at) (sym (take-suc text i 0 l) ∙ ap (λ (k : ℕ). take k text) (sym (add-one i)))

-- the loop that copies a text: its first i bytes are placed
pub record CopiedText (a : List ℕ) (at : ℕ) (text b : List ℕ) (i : ℕ) : Type 0 where
  pub within : i ≤ length text
  pub bytes : b ≡ placed a at (take i text)

module _ {a : List ℕ} {at : ℕ} {text : List ℕ} where
  pub copied_none : CopiedText a at text a 0
  copied_none = record { within = omega arith; bytes = sym (placed_none a at) }

  module _ {b : List ℕ} {i : ℕ} (h : CopiedText a at text b i) where
    pub copied_length : length b ≡ length a
    copied_length = ap length h.bytes ∙ length_placed a at (take i text)

    pub copied_more : i < length text → CopiedText a at text (set b (at + i) (get_or text i 0)) (i + 1)
    copied_more l = record {
      within = omega arith;
      bytes = ap (λ (q : List ℕ). set q (at + i) (get_or text i 0)) h.bytes ∙ placed_turn a at text i l;
    }

    pub copied_end : length text ≤ i → Puts a at text b (at + i)
    copied_end l = (omega (arith, h.within), h.bytes ∙ ap (placed a at) (take_all i text l))

pub puts_more : (a : List ℕ) (at : ℕ) (x b : List ℕ) (m : ℕ) (y c : List ℕ) (e : ℕ) → Puts a at x b m → Puts b m y c e → Puts a at (x ++ y) c e
puts_more a at x b m y c e p q = (
  omega (arith, p.0, q.0, length-append x y),
  q.1 ∙ rw (p.1, p.0) (placed_more a at x y),
)

-- an upper bound for the index after the text; the list's length is unchanged
pub record Room (a : List ℕ) (at : ℕ) (b : List ℕ) (m k : ℕ) : Type 0 where
  pub end : m ≤ at + k
  pub same : length b ≡ length a

pub room : (a : List ℕ) (at : ℕ) (x b : List ℕ) (m k : ℕ) → Puts a at x b m → length x ≤ k → Room a at b m k
room a at x b m k p h = record { end = omega (arith, p.0); same = ap length p.1 ∙ length_placed a at x }

-- that a text was put, as a type from which laws infer the text and its index
pub data Text (a : List ℕ) (at : ℕ) (x b : List ℕ) (m : ℕ) : Type 0 where
  put : Puts a at x b m → Text a at x b m

-- a text uses as much room as its length, and a second text after it adds its own length
pub text_room : {a : List ℕ} {at : ℕ} {x b : List ℕ} {m : ℕ} → Text a at x b m → Room a at b m (length x)
text_room {a} {at} {x} {b} {m} (Text.put p) = room a at x b m (length x) p (omega arith)

pub room_more : {a : List ℕ} {at : ℕ} {b : List ℕ} {m j : ℕ} {c : List ℕ} {e k : ℕ} → Room a at b m j → Room b m c e k → Room a at c e (j + k)
room_more g h = record { end = omega (arith, g.end, h.end); same = h.same ∙ g.same }
