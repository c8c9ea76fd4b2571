-- The generator of a schedule, and what is drawn from it.
use Rattle.std.specs.Prelude.{ℕ, zero, suc, ◌+◌, ◌*◌, ◌%◌, ◌^◌, ℤ, pos, ◌-ℤ◌}
use Rattle.rand_pcg.specs.Lcg.{Lcg, started, increment_of}
use Rattle.rand_pcg.specs.Pcg.{multiplier_64, pcg32}

-- the generator of the schedule of a number: PCG (XSH RR 64/32), with the number as its state, on stream 1
unfoldable pub generator_of : ℕ → Lcg
generator_of n = started 64 multiplier_64 n (increment_of 64 1)

-- the generator's next word of 32 bits, and the generator after it
unfoldable pub next_word : Lcg → ℕ
next_word generator = (pcg32 generator).0

unfoldable pub next_generator : Lcg → Lcg
next_generator generator = (pcg32 generator).1

-- the generator after so many draws
abbrev pub generator_after : ℕ → Lcg → Lcg
generator_after zero generator = generator
generator_after (suc n) generator = generator_after n (next_generator generator)

-- the draw below this number that comes after so many other draws: the word there, modulo the number
abbrev pub drawn_number : ℕ → ℕ → Lcg → ℕ
drawn_number draws below generator = next_word (generator_after draws generator) % below

-- one of 64 tokens that are spread evenly over the ring
abbrev pub drawn_token : ℕ → ℤ
drawn_token k = pos (k * 2 ^ 58 + 1) -ℤ pos (2 ^ 63)
