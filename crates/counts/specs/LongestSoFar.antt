-- The invariant of a loop over steps about the longest queues. Assumes nothing.
use Rattle.std.specs.Prelude.{◌≡◌, Bool, true, ℕ, suc, ◌+◌, ◌≤◌}
use Rattle.std.proofs.Common.{sym, ap, ◌∙◌, add-one}
use Rattle.model.specs.declared.State.{State}
use Rattle.model.specs.Road.{most_cells}
use Rattle.model.specs.Longest.{Queues, stayed_of, longest_of}
use Rattle.counts.specs.Longest.{no_queues}
use Rattle.counts.specs.LongestLaws.{longest_after, longest_none, longest_more}

-- the longest queues after k steps, if they are wanted; `after` gives the states
pub record LongestSoFar (longs : Bool) (n : ℕ) (after : ℕ → State) (q : Queues) (k : ℕ) : Type 0 where
  pub queues : longs ≡ true → q ≡ longest_of n after k

module _ (longs : Bool) (n : ℕ) (after : ℕ → State) where
  pub queues_none : LongestSoFar longs n after no_queues 0
  queues_none = record { queues = λ _. sym (longest_none n after) }

  module _ {q : Queues} {k : ℕ} (h : LongestSoFar longs n after q k) where
    -- one more step, from u to v
    pub queues_more : {u v : State} {p : Queues} → n ≤ most_cells → u ≡ after k → v ≡ after (k + 1)
        → (longs ≡ true → p ≡ longest_after n q (stayed_of u v) v.gate_queue v.queue) → LongestSoFar longs n after p (k + 1)
    queues_more {u} {v} {p} few eu ev e = record { queues = more }
      where
        now : v ≡ after (suc k)
        now = rw (add-one k) at ev

        more : longs ≡ true → p ≡ longest_of n after (k + 1)
        more wanted =
            rw (add-one k)
            (e wanted
            ∙ ap (λ (x : Queues). longest_after n x (stayed_of u v) v.gate_queue v.queue) (h.queues wanted)
            ∙ rw (eu, now) (sym (longest_more n after k few)))

    pub queues_end : {m : ℕ} → k ≡ m → longs ≡ true → q ≡ longest_of n after m
    queues_end e wanted = h.queues wanted ∙ ap (longest_of n after) e
