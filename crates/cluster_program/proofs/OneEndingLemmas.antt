-- How a call is to end is one ending: a text says one schedule or has one first fault, and is too long or is not.
use Rattle.std.proofs.Common.{List, None, Option, Some, ap, arith, length, sym, ℕ, ◌<◌, ◌∙◌, ◌≡◌, ◌≤◌, inl, inr}
use Rattle.command_words.specs.declared.words.Command.{Command}
use Rattle.command_words.specs.declared.words.Command.TheVariants.{Balance, Gen, Play, Reads}
use Rattle.schedule_data.specs.declared.data.Schedule.{Schedule}
use Rattle.schedule_gen.specs.Schedule.{schedule_text}
use Rattle.schedule_text.proofs.TextLemmas.{never_both, one_fault, one_schedule}
use Rattle.text_grammar.specs.declared.faults.Fault.{Fault}
use Rattle.cluster_program.specs.Endings.{Ending, IsCommandEnding, IsGenEnding, IsReadEnding, IsTextEnding, fault_ending, input_limit, play_ending}
use Rattle.cluster_program.specs.declared.texts.Form.{Form}
use Rattle.cluster_program.specs.declared.texts.Form.TheVariants.{Planned, Repaired, Report, Summary}

same_fault_ending : (n m : ℕ) (f g : Fault) → n ≡ m → f ≡ g → fault_ending n f ≡ fault_ending m g
same_fault_ending n m f g line fault = ap (λ (l : ℕ). fault_ending l f) line ∙ ap (fault_ending m) fault

pub one_text_ending : (form : Form) (text : List ℕ) (one other : Ending) → IsTextEnding form text one → IsTextEnding form text other → one ≡ other
one_text_ending form text one other (inl (schedule, says, ends)) (inl (again, agrees, too)) =
    ends ∙ ap (λ (s : Schedule). play_ending form s) (one_schedule text schedule again says agrees) ∙ sym too
one_text_ending form text one other (inl (schedule, says, ends)) (inr (line, fault, is, too)) = absurd (never_both text schedule line fault says is)
one_text_ending form text one other (inr (line, fault, is, ends)) (inl (schedule, says, too)) = absurd (never_both text schedule line fault says is)
one_text_ending form text one other (inr (line, fault, is, ends)) (inr (place, wrong, also, too)) =
    let same = one_fault text line place fault wrong is also in
    ends ∙ same_fault_ending line place fault wrong same.0 same.1 ∙ sym too

not_both : (n limit : ℕ) → limit < n → n ≤ limit → ⊥
not_both n limit above below = omega (arith, above, below)

pub one_read_ending : (form : Form) (text : List ℕ) (one other : Ending) → IsReadEnding form text one → IsReadEnding form text other → one ≡ other
one_read_ending form text one other (inl (long, ends)) (inl (larger, too)) = ends ∙ sym too
one_read_ending form text one other (inl (long, ends)) (inr (short, said)) = absurd (not_both (length text) input_limit long short)
one_read_ending form text one other (inr (short, said)) (inl (long, ends)) = absurd (not_both (length text) input_limit long short)
one_read_ending form text one other (inr (short, said)) (inr (less, told)) = one_text_ending form text one other said told

pub one_gen_ending : (n : ℕ) (one other : Ending) → IsGenEnding n one → IsGenEnding n other → one ≡ other
one_gen_ending n one other is also = one_text_ending (Summary n) (schedule_text n) one other is also

pub one_command_ending : (asked : Option Command) (text : List ℕ) (one other : Ending) → IsCommandEnding asked text one → IsCommandEnding asked text other → one ≡ other
one_command_ending None text one other is also = is ∙ sym also
one_command_ending (Some Play) text one other is also = one_read_ending Report text one other is also
one_command_ending (Some (Gen n)) text one other is also = one_gen_ending n one other is also
one_command_ending (Some Reads) text one other is also = one_read_ending Repaired text one other is also
one_command_ending (Some Balance) text one other is also = one_read_ending Planned text one other is also
