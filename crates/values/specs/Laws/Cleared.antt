-- A front of work memory that was filled with zeros.
-- Assumes nothing.
use Rattle.std.specs.Prelude.{◌≡◌, List, ℕ, ◌++◌, ◌≤◌, length, take, drop, replicate}
use Rattle.std.proofs.lemmas.List.{length-take-le}
use Rattle.records.specs.Model.Lists.{put}
use Rattle.records.specs.Laws.Lists.{put-fill}

pub front_filled : (memory : List ℕ) {front : List ℕ} {n : ℕ} → n ≤ length memory → front ≡ replicate (length (take n memory)) 0
    → front ++ drop n memory ≡ put memory n (λ k. 0)
front_filled memory {n = n} room e = rw (e, length-take-le n memory room) (put-fill memory n 0 room)
