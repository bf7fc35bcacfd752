-- Lines of a script, computed. Assumes nothing.
use mathlib.Core.Path.{◌≡◌, refl}
use mathlib.Core.List.{[], ◌∷◌}
use Rattle.bench_rules.specs.Text.{value_of, valued, read_on, number_of}
use Rattle.bench_rules.specs.declared.Kind.TheVariants.{ReadWord, End, RxStatus}
use Rattle.bench_rules.specs.Script.{is_of, reach_of, word_of, next_of, begun_of, key_on, key_of, kind_of, line_of, nothing_line, unknown_line, count_of, operand_of, plain_line, number_line, flag_of, flag_line, numbers_line, operand_line, words_line, meaning_of}

-- `rw 0E`, with a space and with a tab
with-space : meaning_of 0 (0x72 ∷ 0x77 ∷ 0x20 ∷ 0x30 ∷ 0x45 ∷ []) ≡ line_of ReadWord 0x0E 0 0 0
unfolding begun_of reach_of is_of words_line word_of next_of key_of key_on kind_of count_of operand_line numbers_line number_line operand_of number_of read_on valued value_of
with-space = refl

with_tab : meaning_of 0 (0x72 ∷ 0x77 ∷ 0x09 ∷ 0x30 ∷ 0x45 ∷ []) ≡ line_of ReadWord 0x0E 0 0 0
unfolding begun_of reach_of is_of words_line word_of next_of key_of key_on kind_of count_of operand_line numbers_line number_line operand_of number_of read_on valued value_of
with_tab = refl

-- `end 10`: check sequence good, alignment bad; `end 02` is not understood
flags : meaning_of 0 (0x65 ∷ 0x6E ∷ 0x64 ∷ 0x20 ∷ 0x31 ∷ 0x30 ∷ []) ≡ line_of End 1 0 0 0
unfolding begun_of reach_of is_of words_line word_of next_of key_of key_on kind_of count_of operand_line numbers_line flag_line flag_of
flags = refl

flag_2 : meaning_of 0 (0x65 ∷ 0x6E ∷ 0x64 ∷ 0x20 ∷ 0x30 ∷ 0x32 ∷ []) ≡ unknown_line
unfolding begun_of reach_of is_of words_line word_of next_of key_of key_on kind_of count_of operand_line numbers_line flag_line flag_of
flag_2 = refl

-- `rx` asks for RX Status; `rx 8` is not understood
rx_alone : meaning_of 0 (0x72 ∷ 0x78 ∷ []) ≡ line_of RxStatus 0 0 0 0
unfolding begun_of reach_of is_of words_line word_of next_of key_of key_on kind_of count_of operand_line numbers_line plain_line
rx_alone = refl

rx_with_operand : meaning_of 0 (0x72 ∷ 0x78 ∷ 0x20 ∷ 0x38 ∷ []) ≡ unknown_line
unfolding begun_of reach_of is_of words_line word_of next_of key_of key_on kind_of count_of operand_line numbers_line plain_line
rx_with_operand = refl

-- a comment asks nothing
comment : meaning_of 0 (0x20 ∷ 0x23 ∷ 0x65 ∷ []) ≡ nothing_line
unfolding begun_of reach_of is_of words_line
comment = refl
