-- Laws for whoever feeds a stream: what is told fits, and buffers keep their lengths.
use Rattle.std.specs.Prelude.{ℕ, zero, ◌≤◌, ◌<◌, ◌≡◌, List, ltb, length, take}
use Rattle.std.proofs.Common.{ap, ⊎_elim, arith, ltb-true, ltb-false}
use Rattle.laws.specs.Cases.{by}
use Rattle.bench_script.specs.Output.{turn_room}
use Rattle.put_text.specs.Wrote.{Wrote}
use Rattle.put_text.specs.Laws.Wrote.{wrote_fits}
use Rattle.bench_morning.specs.Desk.{said, last_said}
use Rattle.bench_morning.specs.Stream.{desk_of, HoldsIn}
use Rattle.bench_stream.specs.Feeding.{Ready, Moves, Feeds, Ends}
use Rattle.bench_morning.specs.declared.Stream.{Stream}
use Rattle.bench_morning.specs.declared.Fed.{Fed}

front_fits : (out t m : List ℕ) (n : ℕ) → Wrote out 0 t m n → n ≤ length out
front_fits out t m n w = let a = wrote_fits out 0 t m n (omega arith) w in let b = w.place in omega arith

pub feeds_fit : (s : Stream) (keep piece out : List ℕ) (r : Fed) (kept written : List ℕ) → Feeds s keep piece out r kept written
    → (r.took ≤ length piece) × (r.wrote ≤ length out) × (length kept ≡ length keep) × (length written ≡ length out)
feeds_fit s keep piece out r kept written f =
    ⊎_elim
    (λ p. let m = p.1 in
    (m.took, front_fits out (said (desk_of s keep) (take r.took piece)) written r.wrote m.wrote, m.size, m.wrote.size))
    (λ p. let a : r.took ≡ 0 = ap (λ (x : Fed). x.took) p.1 in
    let b : r.wrote ≡ 0 = ap (λ (x : Fed). x.wrote) p.1 in
    (omega arith, omega arith, ap length p.2, ap length p.3))
    f.is

pub ends_fit : (s : Stream) (keep out : List ℕ) (n : ℕ) (written : List ℕ) → Ends s keep out n written → (n ≤ length out) × (length written ≡ length out)
ends_fit s keep out n written f =
    ⊎_elim
    (λ p. (front_fits out (last_said (desk_of s keep)) written n p.1, p.1.size))
    (λ p. (let e = p.1 in omega arith, ap length p.2))
    f.is

-- nothing is taken only where there is no room, or nothing to take
stuck : (s : Stream) (keep piece out : List ℕ) (r : Fed) (kept written : List ℕ) → turn_room ≤ length out → 0 < length piece
    → Moves s keep piece out r kept written → r.took ≤ 0 → ⊥
unfolding said
stuck s keep piece out r kept written h k m z =
    let n : r.took ≡ zero = omega arith in
    let l : length (said (desk_of s keep) (take r.took piece)) ≡ 0 = ap (λ (i : ℕ). length (said (desk_of s keep) (take i piece))) n in
    let q = m.wrote.place in
    ⊎_elim (λ e. omega (arith, e)) (λ e. omega (arith, e)) m.stop

-- a stream that is ready takes a byte at least, and is ready again
pub ready_takes : (s : Stream) (keep piece out : List ℕ) (r : Fed) (kept written : List ℕ) → Ready s (length keep) (length out) → 0 < length piece
    → Feeds s keep piece out r kept written → (0 < r.took) × HoldsIn r.stream (length kept)
ready_takes s keep piece out r kept written h k f =
    ⊎_elim
    (λ p. (by (ltb 0 r.took) (λ t. ltb-true 0 r.took t) (λ t. absurd (stuck s keep piece out r kept written h.room k p.1 (ltb-false 0 r.took t))), p.1.holds))
    (λ p. absurd (p.0 h))
    f.is
