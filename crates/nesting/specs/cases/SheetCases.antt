-- Chosen stores with what is printed for them, in one list: each turns on something that nesting or its sheet does, so that a
-- definition changed together with its proofs is still caught. Texts are the Rust's where twice is 0 and the refusal not 9.
use Rattle.std.specs.Prelude.{◌≡◌, refl, Bool, true, ◌&&◌, List, [], ◌∷◌, ◌++◌, map, ℕ, zero, suc, ◌-◌, length, replicate}
use Prim.Native.String.{String}
use Rattle.meaning.specs.Graph.{Instr, instr, bool_cond, return, branch, select_branch, Region}
use Rattle.meaning.specs.Lists.{concat}
use Rattle.meaning.specs.Text.{Text}
use Rattle.meaning.specs.facts.Tests.{and_both}
use Rattle.nesting.specs.Sheet.{printed}
use Rattle.meaning.specs.facts.Elements.{same_numbers}
use Rattle.nesting.specs.cases.QuickPrint.{quick_printed, prints_by_test}
use Rattle.format.specs.stores.Hex.{hex}
use Rattle.format.specs.stores.Pack.{store_of_graph}
use Rattle.nesting.specs.cases.CaseGraphs.{op, to, plain_region, header, graph}
use Rattle.nesting.specs.cases.Cases.{lines}

-- A block of 512 bytes in hexadecimal: its front, zeros up to byte 507, its check.
unfoldable pub block_bytes : List String → String → List ℕ
unfolding hex
block_bytes front check = let bytes = concat (map hex front) in bytes ++ replicate (508 - length bytes) 0 ++ hex check

pub record SheetCase : Type 0 where
  pub store : List ℕ
  pub text : Text

abbrev prints : List (List ℕ) → List String → SheetCase
prints blocks ls = record { store = concat blocks; text = lines ls }

-- n blocks of one instruction
abbrev small_blocks : ℕ → List (List Instr)
small_blocks zero = []
small_blocks (suc n) = (op 1 0 0 ∷ []) ∷ small_blocks n

-- n regions of eight blocks, the first numbered k, and a loop whose figure is above the bound
abbrev long_way : ℕ → ℕ → List Region
long_way k zero =
    header [] (op 7 1 65535) 65535 (select_branch bool_cond (instr k 0) (to k [] ∷ to (suc k) [] ∷ [])) (suc k ∷ [])
    ∷ plain_region [] (return [])
    ∷ []
long_way k (suc n) = plain_region (small_blocks 8) (branch (to (suc k) [])) ∷ long_way (suc k) n

abbrev pub sheet_cases : List SheetCase
sheet_cases =
    -- no bytes
    prints [] (
    "refused 1 0"
    ∷ []
    )
    -- block 1 has a wrong number
    ∷ prints (
    block_bytes [] "00000000"
    ∷ block_bytes [] "00000000"
    ∷ []
    ) (
    "refused 2 1"
    ∷ []
    )
    -- block 1 has a wrong check
    ∷ prints (
    block_bytes [] "00000000"
    ∷ block_bytes (
    "01"
    ∷ []
    ) "02000000"
    ∷ []
    ) (
    "refused 3 1"
    ∷ []
    )
    -- W is 0
    ∷ prints (
    block_bytes [] "00000000"
    ∷ []
    ) (
    "refused 4 0"
    ∷ []
    )
    -- a word of region 3 is out of range
    ∷ prints (
    block_bytes (
    "0000aa000400000000000200010002000000000005000300000001000100010005000000030000000100030000000600040001000400000001000200"
    ∷ "020003000100010001000000010004000000010001000300010003000100020003000200030000000500010001000100040000000000010004000100"
    ∷ "02000200010002000300010001000200020001000100010002000000000001000100020005001400ff00060000000300020002000100020003000000"
    ∷ "0a00ff00000000000d000300010002000200030000000200000005000000000001001200020009000300040000000000020003000200000000000100"
    ∷ "030006000000020002000000000001000200030002001400020001000200020003000200020003000300000000006400030002000300010002000300"
    ∷ "04000400000001000700010004000000000000000200030002000200030000000200030004"
    ∷ []
    ) "ddd20200"
    ∷ []
    ) (
    "refused 5 3"
    ∷ []
    )
    -- a value of region 1 names nothing
    ∷ prints (
    block_bytes (
    "00003d0003000000ffff00000000000033000100010005000000ff00000000000200020002000100010006000100030001000100010002005f000400"
    ∷ "0100020001000000020002000200020001000100010001000100000000000200020002000000210003000000010002000200010002000000010002"
    ∷ []
    ) "4c660000"
    ∷ []
    ) (
    "refused 6 1"
    ∷ []
    )
    -- a passed value of region 1 has another type
    ∷ prints (
    block_bytes (
    "000084000500000000000300020001000100000002000100030002000500010000000000010001000400010000000100020000000000d49a04000100"
    ∷ "020000000100020001000300010000000000000001000200000001000000010002000000b24004000100000000000100020002000200010001000100"
    ∷ "0000000002000200010001000100040001000200010000000000010053ec040001000200020000000200010002000100010002000000020001000200"
    ∷ "0000010002000100000001000100010001000600010006000100010003000000e79f0400010002000300000002000300030001000100030000000000"
    ∷ "010002000000e59f03000000010004000100010004"
    ∷ []
    ) "b1830400"
    ∷ []
    ) (
    "refused 7 1"
    ∷ []
    )
    -- the exit list of region 5 names a region twice
    ∷ prints (
    block_bytes (
    "0000720006000000ffff0200020002000000010001001200010003000100000000000100020004000100020000000000020002000100000002000500"
    ∷ "0000ff0005000000030000000200ff000300010001001100010006000100010001000100010004000100020001000000020004000300020001000100"
    ∷ "00000100010001000200010001000000010001000000000000000000020002002c000000000000000200ff00ff000000010003000000010002000000"
    ∷ "00000200ff0003000000030003000000010005000100010004000100000001000300000002000000000000000200050005"
    ∷ []
    ) "94030300"
    ∷ []
    ) (
    "refused 8 5"
    ∷ []
    )
    -- untouched: an exit list names the entry; an unreached region has edges and exits
    ∷ prints (
    block_bytes (
    "00009f000500000001000100020002000200ff00010001001200ff000200010001000000010003000500010002000000000001000400020001000000"
    ∷ "0000010000000100000002000200ff000000070003000000010002000200010001000000010001000100000002000200ff0001000100050001000900"
    ∷ "010001000200010001000500010002000200000003000400040003000200000000000000010002000100020001000200000001000200010000000200"
    ∷ "0200ff000100010003000100080001000100030000000800040001000200030000000200020004000200010003000000010003000100020001000300"
    ∷ "0000010003000100030001000200040002000200ff000100010003000200050001000100040000000800050001000200040000000300040004000400"
    ∷ "02000100040000000100040001000200000004"
    ∷ []
    ) "156d0300"
    ∷ []
    ) (
    "untouched figure - attempts 0 twice 0"
    ∷ []
    )
    -- a number test of four places: Undef beside True is True, one value is passed by all, no select
    ∷ prints (
    block_bytes (
    "00005a0004000300ffff0300010001000100030001000100010000003000000000000000000001000100000030000100010001000100000000000000"
    ∷ "030001000100010000000f000300000001000100010001000200000000000000010001000f0001000100010000000000020053000500010002000300"
    ∷ "000004000100010002000000010002000300000003000200030000000000000000000200030000000300020003000000020003000000020003"
    ∷ []
    ) "31780000"
    ∷ []
    ) (
    "whole figure 1 attempts 8 twice 0"
    ∷ "region 3 in - kids 0 out d3.0"
    ∷ "block 0 3.0/15/1/c2"
    ∷ []
    )
    -- a shared region that is trivially unreachable; Undef beside True; a select on true
    ∷ prints (
    block_bytes (
    "000052000300000000000200020003000200030002000100010003000200030001000100000000000100050001000200000000000800020002000100"
    ∷ "0200020002000200010001000100000001000100010000000100000001000200010001000a0002000200010001000100000001000500010002000100"
    ∷ "00000800020002000200020002000200020002000100010001000000000001000200000001"
    ∷ []
    ) "ab280000"
    ∷ []
    ) (
    "closed figure 5 attempts 18 twice 0"
    ∷ "region 0 in 3,2 kids 0,2 out -"
    ∷ "block 0 0.0/3/2/i0.0"
    ∷ "select 2 bool true cases 1,3 out -"
    ∷ "region 1 in - kids 1 out -"
    ∷ "block 1 1.0/10/2/i0.1"
    ∷ "region 3 in - kids - out -"
    ∷ []
    )
    -- a shared region that is trivially unreachable; an unreached region has exits; values of exits
    ∷ prints (
    block_bytes (
    "0000dc0006000000ffff0000010002000100010007000100070001000100000000000100050001000500000002000300010003000200020001000000"
    ∷ "000005000000020002000100000000000100000000000200010000000000050000000200010005000200020002000400030008000100010000000200"
    ∷ "010005000100040000000100100001000700010002000100000002000700000004000000140001000000000002000500010004000100020001000000"
    ∷ "1200000003000100010001000000050001000100070000000f000200640003000400000001000200010004000200010004000d000100090002000400"
    ∷ "000000000200010002008080020000000000020001000600020005000000010004000000010002000300000001000500010001000100010001000400"
    ∷ "020002000200000003000200420001000100020000000000000002000200020002000200140002000300020001000300000001000300010011000200"
    ∷ "0100000001000b00020064000000020002002f0001000200030001000000000001000200010001000e00000002000100010004000000010000000000"
    ∷ "00000100030001000200000002"
    ∷ []
    ) "462d0400"
    ∷ []
    ) (
    "closed figure 65688 attempts 5 twice 0"
    ∷ "region 0 in 2 kids 0,10 out -"
    ∷ "block 0 0.0/7/1/i0.0"
    ∷ "select 10 num undef2 cases 1,3,2 out -"
    ∷ "region 1 in - kids 1,2,3,4 out -"
    ∷ "block 1 1.0/8/1/-,1.1/2/1/true,1.2/16/1/d1.0"
    ∷ "block 2 1.3/7/0/-,1.4/20/1/-"
    ∷ "block 3 1.5/5/1/d1.0,1.6/18/0/i0.0"
    ∷ "block 4 1.7/1/1/-,1.8/15/2/true,d1.4,d1.4,1.9/13/1/false,d1.2,1.10/32896/2/-,1.11/2/1/undef1,true"
    ∷ "region 3 in - kids 5,6,8 out -"
    ∷ "block 5 3.0/20/2/i0.0,i0.0,3.1/17/2/-"
    ∷ "block 6 3.2/11/2/-"
    ∷ "exit 8 47 in d3.1"
    ∷ "region 2 in - kids 9 out -"
    ∷ "exit 9 66 in i0.0"
    ∷ []
    )
    -- an unreached region has edges and exits; twice from a loop's first inputs
    ∷ prints (
    block_bytes (
    "0000ec000500000005000200010001000000030001000c00000001000200040000000000000000000100010000000100060000000100020001000900"
    ∷ "0000bb4003000000010004000300020000000100020000000100020000000100000003000100010001000000e19a0300000001000200030001000100"
    ∷ "0000010001000100010001000200000003000100010001000100020033490100010000000c00010004000100010002000200e42f0500010002000200"
    ∷ "010001000200030004000000010001000200010001000200020000000300010001000100020003000f000000080000000a0000000700030001000300"
    ∷ "0200010003000000010003000100110001000800020001000300010001000300000001001300010003000100010003000100e1250500010002000300"
    ∷ "030008000100010001000300030002000100010003000100030000000100030002000100030002000300010003000000010003000100010003000200"
    ∷ "0300020003000300010003000000010003000200010002000300010001000100010001000e0001000500010001000400010064420500010002000400"
    ∷ "0000030004000100040003000100040000000100040000000100040002000300010004000100010004000100010004000200010001"
    ∷ []
    ) "89010600"
    ∷ []
    ) (
    "closed figure 377561 attempts 11 twice 1"
    ∷ "region 0 in - kids 0,1,2,9,10 out -"
    ∷ "block 0 0.0/12/0/false,c1"
    ∷ "block 1 0.1/0/1/-"
    ∷ "block 2 0.2/2/1/-"
    ∷ "loop 9 in d0.1 body 4 repeat n8.0"
    ∷ "region 4 in 1 kids 6,8 out d0.1"
    ∷ "block 6 4.0/14/1/i4.0"
    ∷ "select 8 num d4.0 cases 6,7,8 out 1"
    ∷ "region 6 in - kids - out true"
    ∷ "region 7 in - kids - out false"
    ∷ "region 8 in - kids - out true"
    ∷ "select 10 bool true cases 1,10 out -"
    ∷ "region 1 in - kids 7 out -"
    ∷ "loop 7 in i4.0 body 2 repeat true"
    ∷ "region 2 in 1 kids 3 out true"
    ∷ "block 3 2.0/18739/1/-,2.1/12/1/d0.1"
    ∷ "region 10 in - kids - out -"
    ∷ []
    )
    -- an unreached region has edges and exits; a number select with an output of type 255, undefined in a case
    ∷ prints (
    block_bytes (
    "0000db0008000000010002000300010002000300ff000000020003000000010002000200010000000000010000000100000002000300ff0000000100"
    ∷ "0500010001000100010002000500060001000100010000000100010001000100000002000300ff00010001000e000100020001000100020001000200"
    ∷ "050001000200020000000300020002000500020001000200000001000200010001000100020000000100070001000300010001001000020000000100"
    ∷ "01000300000002000500010002000300000004000200050003000100020001000300000005000000ff00010001000300000001000100030000000200"
    ∷ "01000300000005000000ff000000010003000000020004000100000000000100020006000500010005000000ff000100010004000000000001000300"
    ∷ "020001000e0001000800020001000500000001000500000001000c000100000001000000000000000100040001000200050000000200020005000200"
    ∷ "01000500000005000000ff00010001000500000000000100ff00000001000300000001000700010001000600000003000200040007000100ff000000"
    ∷ "010003000000010007000100010007"
    ∷ []
    ) "98b30900"
    ∷ []
    ) (
    "closed figure 28 attempts 10 twice 0"
    ∷ "region 0 in 3,255 kids 7 out -"
    ∷ "loop 7 in i0.1 body 2 repeat true"
    ∷ "region 2 in 255 kids 0,6 out n6.0"
    ∷ "block 0 2.0/14/1/i2.0"
    ∷ "select 6 num d2.0 cases 11,12,10 out 255"
    ∷ "region 11 in - kids - out i2.0"
    ∷ "region 12 in - kids - out i2.0"
    ∷ "region 10 in - kids 5 out undef255"
    ∷ "loop 5 in - body 5 repeat n4.0"
    ∷ "region 5 in - kids 2,3,4 out -"
    ∷ "block 2 5.0/14/1/i0.0,i0.0"
    ∷ "block 3 5.1/12/1/c0"
    ∷ "select 4 bool d5.0 cases 8,9 out 1"
    ∷ "region 8 in - kids - out false"
    ∷ "region 9 in - kids - out true"
    ∷ []
    )
    -- a number select with typed outputs, undefined in some cases; a merged Return of that type
    ∷ prints (
    block_bytes (
    "0000d4000800010005000000020003000100010001000200ff0000000000010003000000010007000200010000000000010000000100000000000100"
    ∷ "01001200ff00010001000400000001000200050001000200010000000400070007000500030002000500000003000400000000000200050000000300"
    ∷ "040000000100020005000000030004000000010000000200030001000000010003000000010007000200010002000000040000000100000002000300"
    ∷ "010001000100000001000600010004000000000002000500010001000300000002000200040002000100030000000200030000000200010003000000"
    ∷ "0200030000000000020003000100020002001000030001000000100000000900000001001200ff000100010002000400000002000100010002000400"
    ∷ "000000000000020003000100010001000a00020009000100010005000100020005000100010005000100020006000000020001000500000001000500"
    ∷ "0100020001000500000005000000010000000200030001000000010001000100010006000000000000000200030001000000010001000100010007"
    ∷ []
    ) "40ec0200"
    ∷ []
    ) (
    "whole figure 33 attempts 16 twice 0"
    ∷ "region 1 in - kids 1,8,9 out n9.0"
    ∷ "block 1 1.0/18/255/true"
    ∷ "select 8 num d1.0 cases 8,9,5,3 out 1,3,1"
    ∷ "region 8 in - kids - out false,undef3,true"
    ∷ "region 9 in - kids - out false,undef3,true"
    ∷ "region 5 in - kids 5,6 out undef1,undef3,n6.0"
    ∷ "block 5 5.0/10/2/true"
    ∷ "select 6 num true cases 6,0 out 1"
    ∷ "region 6 in - kids - out false"
    ∷ "region 0 in - kids 0 out true"
    ∷ "block 0 0.0/2/255/-"
    ∷ "region 3 in - kids 2,7 out true,n7.0,n7.1"
    ∷ "block 2 3.0/0/1/false"
    ∷ "select 7 num undef3 cases 2,4 out 3,1"
    ∷ "region 2 in - kids - out undef3,true"
    ∷ "region 4 in - kids 3,4 out d4.0,false"
    ∷ "block 3 4.0/16/3/-,4.1/16/0/-"
    ∷ "block 4 4.2/18/255/d4.0"
    ∷ "select 9 bool n8.2 cases 7,10 out 3"
    ∷ "region 7 in - kids - out undef3"
    ∷ "region 10 in - kids - out n8.1"
    ∷ []
    )
    -- leftover: typed merged Return; a number select; a deferred edge looked up once more
    ∷ prints (
    block_bytes (
    "0000e7000900000002000600030001000300ff0003000100020001000200010001000900010009000100010000000000010004000100010000000000"
    ∷ "020002000100020001000000000001000000010002000200000000000100000001000000020001000200000003000300000001000400020001000100"
    ∷ "000001000100010000000200010002000000030001000400000000000300000000000300010002000000010002000100000000000200010002000000"
    ∷ "02000100040000000000030000000000030004000000000001000300010000000000020001000200010001001400ff00000001000100040000000100"
    ∷ "050001000200040000000200050006000200010004000000010004000100020001000400000001000400010000000200010002000000030004000100"
    ∷ "010005000000020007000800020001000500000001000500010002000100050000000100050001000000020001000200000003000100040000000000"
    ∷ "030005000000ff0004000000010001000600010000000000020001000200000002000300000001000300020001000700000001000700010002000800"
    ∷ "010002000100020000000200010004000000000003000000000003000100080000000100080001"
    ∷ []
    ) "39f60300"
    ∷ []
    ) (
    "leftover figure - attempts 13 twice 0"
    ∷ "region 0 in 1,2 kids 0,4 out -"
    ∷ "block 0 0.0/9/1/i0.0"
    ∷ "select 4 bool i0.0 cases 2,10 out -"
    ∷ "region 2 in - kids - out -"
    ∷ "region 10 in - kids - out -"
    ∷ "region 1 in 1,2 kids 1,3 out -"
    ∷ "block 1 4.0/20/255/i1.0"
    ∷ "select 3 num d4.0 cases 5,6 out 255,1"
    ∷ "region 5 in - kids 2 out c3,false"
    ∷ "select 2 bool i1.0 cases 7,9 out -"
    ∷ "region 7 in - kids - out -"
    ∷ "region 9 in - kids - out -"
    ∷ "region 6 in - kids - out undef255,true"
    ∷ "region 8 in 1,2 kids - out -"
    ∷ "defer 0 to return count 0 in c3,c3,i0.0,i0.1 if m4[t,f]"
    ∷ "defer 0 to 1 count 1 in d0.0,i0.1 if m4[f,t]"
    ∷ "defer 1 to return count 0 in c3,n3.0,n3.1,i1.1 if m3[m2[t,f],t]"
    ∷ "defer 1 to 8 count 1 in i1.0,i1.1 if m3[m2[f,t],f]"
    ∷ "defer 8 to return count 0 in c3,c3,i8.0,i8.1 if t"
    ∷ []
    )
    -- leftover: Undef, True and False in one condition
    ∷ prints (
    block_bytes (
    "00007b000a000000050003000200010002000000010001000c000200010001000000000000001e000500010005000000010008000400060005000300"
    ∷ "010006000600020000000000000000000000000000000000010001000c000100000001000000000000003f0004000100020001000000020008000700"
    ∷ "0000000002000300050000000000540000000000000000000000000055000100000000000000000000003d0003000000010009000000000000000000"
    ∷ "1d0002002c00000000000000000000000c0001000000000000000000000044000000000000000000000000000f000100000000000000000000001700"
    ∷ "01"
    ∷ []
    ) "0b6d0100"
    ∷ []
    ) (
    "leftover figure - attempts 15 twice 0"
    ∷ "region 0 in - kids 0,3,4 out -"
    ∷ "block 0 0.0/12/2/c0"
    ∷ "select 3 num undef1 cases 4,10,11,12,1,13,14,2 out 1"
    ∷ "region 4 in - kids - out false"
    ∷ "region 10 in - kids - out true"
    ∷ "region 11 in - kids - out false"
    ∷ "region 12 in - kids - out false"
    ∷ "region 1 in - kids 1 out false"
    ∷ "block 1 1.0/12/1/c0"
    ∷ "region 13 in - kids - out true"
    ∷ "region 14 in - kids - out true"
    ∷ "region 2 in - kids - out undef1"
    ∷ "select 4 bool n3.0 cases 6,15 out -"
    ∷ "region 6 in - kids - out -"
    ∷ "region 15 in - kids - out -"
    ∷ "region 3 in - kids - out -"
    ∷ "region 5 in - kids 2 out -"
    ∷ "exit 2 44 in -"
    ∷ "defer 0 to return count 0 in - if m4[t,m3[t,f,f,f,t,f,f,u]]"
    ∷ "defer 0 to 5 count 1 in - if m4[f,m3[f,f,t,f,f,f,f,u]]"
    ∷ "defer 0 to 3 count 1 in - if m4[f,m3[f,f,f,t,f,f,f,u]]"
    ∷ "defer 3 to return count 0 in - if t"
    ∷ []
    )
    -- a repeat value that is undefined in a case; the dearest case
    ∷ prints (
    block_bytes (
    "0000940004000000020006000200ff000300010001000100000000000200050001000500000001000500030001000300030002000400000000000000"
    ∷ "000000000000000000000100000000000000040000000000000000000000000000000000010000000000000004000000000000000000000000000000"
    ∷ "000001000000000000000000040002000200ff000200010001000b0002000800000001000100010005000000010000000000040002000200ff000200"
    ∷ "01000100040003000300000002000000000000000000040002000200ff00020003000100110000000900030001000300010001000300000005000000"
    ∷ "ff00010012000000ffff0300050000000100010003000000050000000200020006000200070000000b0002000000000001"
    ∷ []
    ) "87a90500"
    ∷ []
    ) (
    "whole figure 65563 attempts 7 twice 0"
    ∷ "region 0 in - kids 5,6 out undef1"
    ∷ "select 5 num undef1 cases 4,1,5,6,2 out 1"
    ∷ "region 4 in - kids - out true"
    ∷ "region 1 in - kids 0 out false"
    ∷ "block 0 1.0/11/2/-"
    ∷ "region 5 in - kids - out true"
    ∷ "region 6 in - kids - out true"
    ∷ "region 2 in - kids 1 out undef1"
    ∷ "block 1 2.0/4/3/-"
    ∷ "select 6 bool n5.0 cases 3,7 out -"
    ∷ "region 3 in - kids 2,3,4 out -"
    ∷ "block 2 3.0/17/0/c0,c0,undef255"
    ∷ "block 3 3.1/18/0/undef1,c0,undef2"
    ∷ "block 4 3.2/6/2/-,3.3/11/2/-"
    ∷ "region 7 in - kids - out -"
    ∷ []
    )
    -- the one convergent case goes behind the select
    ∷ prints (
    block_bytes (
    "0000480003000000ffff0200010001000000010001000100010006000100050000000100030004000100020000000000020001000200020005000000"
    ∷ "010005000000010002000000000001000200000000000000020001000100010001000800000009000100010001000100020000000000000000000200"
    ∷ "01000100010001001200000007000000020001"
    ∷ []
    ) "48390000"
    ∷ []
    ) (
    "whole figure 65557 attempts 3 twice 0"
    ∷ "region 0 in - kids 0,3,2 out -"
    ∷ "block 0 0.0/1/1/undef1"
    ∷ "select 3 bool d0.0 cases 1,3 out -"
    ∷ "region 1 in - kids 1 out -"
    ∷ "block 1 1.0/8/0/undef1"
    ∷ "region 3 in - kids - out -"
    ∷ "block 2 2.0/18/0/-"
    ∷ []
    )
    -- the same, beside an exit
    ∷ prints (
    block_bytes (
    "0000570004000000020000000200010002000100010004000100080001000500000002003b0004000100020000000000020001000200020001000000"
    ∷ "0100010000000100000000000200020002000000290002005c0001000400000001000000000000000100010005000100080000004700010002000400"
    ∷ "0000000005000000020000000000030001000200020001000100140002000600020005000000020005000000010032"
    ∷ []
    ) "21ac0000"
    ∷ []
    ) (
    "whole figure 18 attempts 3 twice 0"
    ∷ "region 0 in 1,2 kids 0,4,1 out false,undef2"
    ∷ "block 0 0.0/4/1/undef2"
    ∷ "select 4 bool d0.0 cases 1,4 out -"
    ∷ "region 1 in - kids 3 out -"
    ∷ "exit 3 92 in true"
    ∷ "region 4 in - kids - out -"
    ∷ "block 1 2.0/5/1/-"
    ∷ []
    )
    -- [true, false] of a number test is an output; an undefined value is shared
    ∷ prints (
    block_bytes (
    "000041000400000000000000000000000600030000000100010001000500000002000000010002000100010006000200090000000900030000000100"
    ∷ "02000000010003000000010001000b000100050001000400000001000700050001000200020000000200010003000100050000000200000000000000"
    ∷ "0000040001"
    ∷ []
    ) "ac200000"
    ∷ []
    ) (
    "whole figure 126 attempts 10 twice 0"
    ∷ "region 0 in - kids 3 out -"
    ∷ "loop 3 in undef2 body 1 repeat n2.0"
    ∷ "region 1 in 2 kids 0,1,2 out undef2"
    ∷ "block 0 1.0/6/2/-"
    ∷ "block 1 2.0/11/1/true"
    ∷ "select 2 num d2.0 cases 4,5 out 1"
    ∷ "region 4 in - kids - out true"
    ∷ "region 5 in - kids - out false"
    ∷ []
    )
    -- bool tests of an undefined value: neither [true, undef] nor [undef, false] is the test of the select around it
    ∷ prints (
    block_bytes (
    "00007b000900000000000000000001000100070001000000000001000400010002000000000002000100020000000000000000000100010007000100"
    ∷ "000000000100040001000200010000000200060003000000000000000000010001000700010000000000010004000100020002000000020004000500"
    ∷ "000000000000000000000100040001000500000001000200060007000000000000000000000001000400010005000000010002000600080000000000"
    ∷ "000000000000010001000000000000000000010001000900000001000000010001000000000000000000000001000100000000000000000000000100"
    ∷ "01"
    ∷ []
    ) "b34a0000"
    ∷ []
    ) (
    "whole figure 1 attempts 16 twice 0"
    ∷ "region 0 in - kids 0,8,9 out -"
    ∷ "block 0 0.0/7/1/-"
    ∷ "select 8 bool d0.0 cases 1,2 out 1"
    ∷ "region 1 in - kids 1,5 out n5.0"
    ∷ "block 1 1.0/7/1/-"
    ∷ "select 5 bool d1.0 cases 10,3 out 1"
    ∷ "region 10 in - kids - out true"
    ∷ "region 3 in - kids 4 out undef1"
    ∷ "select 4 bool undef1 cases 9,7 out -"
    ∷ "region 9 in - kids - out -"
    ∷ "region 7 in - kids - out -"
    ∷ "region 2 in - kids 2,7 out n7.0"
    ∷ "block 2 2.0/7/1/-"
    ∷ "select 7 bool d2.0 cases 4,5 out 1"
    ∷ "region 4 in - kids 6 out undef1"
    ∷ "select 6 bool undef1 cases 11,8 out -"
    ∷ "region 11 in - kids - out -"
    ∷ "region 8 in - kids - out -"
    ∷ "region 5 in - kids - out false"
    ∷ "select 9 bool n8.0 cases 6,12 out -"
    ∷ "region 6 in - kids 3 out -"
    ∷ "block 3 6.0/9/0/-"
    ∷ "region 12 in - kids - out -"
    ∷ []
    )
    -- a figure of 4,294,967,295: loops in a loop
    ∷ prints (
    block_bytes (
    "00005300050000000000000000000000010003000000010001000000000000000000ffff030000000100020000000100040000000100010001000100"
    ∷ "01000000ffff040001000200020000000200020003000000000001000300000001000100010001000000000001000400010002000300000002000100"
    ∷ "040000000000000000000100030001000000ffff000001000000ffff00000100000000000000010001"
    ∷ []
    ) "f71d0300"
    ∷ []
    ) (
    "whole figure 4294967295 attempts 15 twice 0"
    ∷ "region 0 in - kids 6,2 out -"
    ∷ "loop 6 in - body 1 repeat d3.0"
    ∷ "region 1 in - kids 5,1,3 out -"
    ∷ "loop 5 in - body 2 repeat d2.0"
    ∷ "region 2 in - kids 0,4 out -"
    ∷ "block 0 2.0/1/1/-"
    ∷ "select 4 bool d2.0 cases 7,8 out -"
    ∷ "region 7 in - kids - out -"
    ∷ "region 8 in - kids - out -"
    ∷ "block 1 3.0/1/1/-"
    ∷ "select 3 bool d3.0 cases 5,6 out -"
    ∷ "region 5 in - kids - out -"
    ∷ "region 6 in - kids - out -"
    ∷ "block 2 4.0/1/0/-,4.1/1/0/-,4.2/1/0/-"
    ∷ []
    )
    -- the same of one more
    ∷ prints (
    block_bytes (
    "00005300050000000000000000000000010003000000010001000000000000000000ffff030000000100020000000100040000000100010001000100"
    ∷ "01000000ffff040001000200020000000200020003000000000001000300000001000100010001000000000001000400010002000300000002000100"
    ∷ "040000000000000000000100030001000000ffff000001000000ffff00000100000001000000010001"
    ∷ []
    ) "921e0300"
    ∷ []
    ) (
    "refused 11 0"
    ∷ []
    )
    -- a marked input that a second look_up leaves as it is
    ∷ prints (
    block_bytes (
    "000084000600050001000100030001000300000001000300000001000400030001000000000001000000000005000000030001000100020003000300"
    ∷ "010001000100010003000100050000000100010004000100020001000000020002000300010001000100000002000100010000000100010000000000"
    ∷ "01000300000001000300000001000000010001000200000001000300020003000300000001000100010005000000ff00000000000300030003000300"
    ∷ "010001000d00010002000100010004000000010004000100020004000000020000000100010001000400020002000100040000000100040001000000"
    ∷ "010003000000010003000000010002000100010005"
    ∷ []
    ) "c1170100"
    ∷ []
    ) (
    "whole figure 9 attempts 18 twice 0"
    ∷ "region 5 in 3 kids 5 out undef255"
    ∷ "loop 5 in i5.0 body 2 repeat d1.0"
    ∷ "region 2 in 3 kids 4,0,2 out i0.0"
    ∷ "loop 4 in i2.0 body 0 repeat d4.0"
    ∷ "region 0 in 3 kids 1,3 out undef3"
    ∷ "block 1 4.0/13/1/i0.0"
    ∷ "select 3 bool d4.0 cases 8,9 out -"
    ∷ "region 8 in - kids - out -"
    ∷ "region 9 in - kids - out -"
    ∷ "block 0 1.0/1/1/undef1"
    ∷ "select 2 bool d1.0 cases 6,7 out -"
    ∷ "region 6 in - kids - out -"
    ∷ "region 7 in - kids - out -"
    ∷ []
    )
    -- the last deferred edge takes the gap; the scan starts anew after each claim
    ∷ prints (
    block_bytes (
    "0000c2000700030002000200010002000100020000000200030000000100000001000100000000000000010002000000010003000000010000000100"
    ∷ "010001000000000001000200010001000500020007000100010002000000020005000100020002000000040006000200040000000100010002000000"
    ∷ "01000100020000000100010002000000010001000200000003000600040000000000010001000f000100070001000400000000000200040001000200"
    ∷ "030000000200050004000100000000000100010000000000010000000100020001000100040001000400010001000400000002000400010002000400"
    ∷ "000002000100000001000100040000000100010004000000000001000200010001000f00010000000100010005000000020004000100020005000000"
    ∷ "020006000500010001000500000001000000000001000100060001000200010001001300010004000100010006000000020005000100010006000000"
    ∷ "020002000100010001000600000001000100060000000300010004"
    ∷ []
    ) "603b0100"
    ∷ []
    ) (
    "closed figure 95 attempts 35 twice 0"
    ∷ "region 3 in - kids 1,11,13,14,15,17 out -"
    ∷ "block 1 3.0/15/1/false"
    ∷ "select 11 bool d3.0 cases 17,18 out 2"
    ∷ "region 17 in - kids 10 out i5.0"
    ∷ "loop 10 in c1 body 5 repeat n9.0"
    ∷ "region 5 in 2 kids 3,9 out c1"
    ∷ "block 3 5.0/15/1/i5.0"
    ∷ "select 9 bool d5.0 cases 15,16 out 1"
    ∷ "region 15 in - kids - out false"
    ∷ "region 16 in - kids - out true"
    ∷ "region 18 in - kids - out undef2"
    ∷ "select 13 bool d3.0 cases 19,20 out 2,1,1"
    ∷ "region 19 in - kids 12 out n11.0,n8.1,n8.2"
    ∷ "loop 12 in - body 6 repeat n8.0"
    ∷ "region 6 in - kids 4,8 out -"
    ∷ "block 4 6.0/19/1/n11.0"
    ∷ "select 8 num n11.0 cases 13,14 out 1,1,1"
    ∷ "region 13 in - kids 7 out n6.1,n6.2,false"
    ∷ "loop 7 in - body 2 repeat n6.0"
    ∷ "region 2 in - kids 0,6 out -"
    ∷ "block 0 2.0/5/2/n11.0"
    ∷ "select 6 num d2.0 cases 9,10,11,12 out 1,1,1"
    ∷ "region 9 in - kids - out false,true,false"
    ∷ "region 10 in - kids - out true,false,false"
    ∷ "region 11 in - kids - out false,false,true"
    ∷ "region 12 in - kids - out false,false,false"
    ∷ "region 14 in - kids - out false,false,true"
    ∷ "region 20 in - kids - out c1,true,false"
    ∷ "select 14 bool n13.1 cases 4,21 out 2,2,1"
    ∷ "region 4 in - kids 2,5 out n13.0,n13.0,d4.0"
    ∷ "block 2 4.0/4/1/n13.0"
    ∷ "select 5 bool d4.0 cases 7,8 out -"
    ∷ "region 7 in - kids - out -"
    ∷ "region 8 in - kids - out -"
    ∷ "region 21 in - kids - out n11.0,n11.0,n13.2"
    ∷ "select 15 bool n14.2 cases 1,22 out 2"
    ∷ "region 1 in - kids - out n14.0"
    ∷ "region 22 in - kids - out n14.1"
    ∷ "select 17 bool true cases 23,24 out -"
    ∷ "region 23 in - kids 16 out -"
    ∷ "loop 16 in - body 0 repeat true"
    ∷ "region 0 in - kids - out -"
    ∷ "region 24 in - kids - out -"
    ∷ []
    )
    -- leftover: a deferred edge with outputs of a select in a loop
    ∷ prints (
    block_bytes (
    "000091000400000001000300020001000200000000000100030000000100010004000000000000000000000000000000000000000000000002000000"
    ∷ "040002000200020002000100010011000100040001000500000002000100040001000200010000000200020003000400010001000000010001000100"
    ∷ "010001000200010001000300040001000100000001000100000001000100000001000100030001000300040002000200020002000100010005000100"
    ∷ "000001000100020002000100040001000200020000000200030001000400010002000000010002000100010002000200010002000300040001000200"
    ∷ "000001000200030001000200020001000200030000000400020002000200020000000100010001000400000000000000010003"
    ∷ []
    ) "de8a0000"
    ∷ []
    ) (
    "leftover figure - attempts 11 twice 0"
    ∷ "region 0 in - kids 4 out -"
    ∷ "loop 4 in c0 body 1 repeat n3.2"
    ∷ "region 1 in 2 kids 0,3 out c2"
    ∷ "block 0 1.0/17/1/undef2"
    ∷ "select 3 bool d1.0 cases 2,6 out 2,2,1"
    ∷ "region 2 in - kids 1,2 out i1.0,c0,n2.0"
    ∷ "block 1 2.0/5/1/c0"
    ∷ "select 2 bool d2.0 cases 4,5 out 1"
    ∷ "region 4 in - kids - out false"
    ∷ "region 5 in - kids - out true"
    ∷ "region 6 in - kids - out c0,c0,false"
    ∷ "region 3 in 2,2,2,2 kids - out -"
    ∷ "defer 0 to 3 count 3 in c0,n3.0,n3.1,c2 if t"
    ∷ "defer 3 to return count 0 in false if t"
    ∷ []
    )
    -- leftover: the others keep their order; conditions in conditions
    ∷ prints (
    block_bytes (
    "0000aa000900000002000600010002000100010001000100000001000100030001000300010000000000000001000400010002000000000002000100"
    ∷ "020000000000000000000000010003000000010003000000000000000000010001000200000000000200000000000400000001000200000001000100"
    ∷ "0b0002000200000001000500010002000300000008000700080008000800080008000500060000000000000000000200070006000000000001000100"
    ∷ "0200040000000000040000000000000000000000000001000300000001000300000000000000020002000a0001000300010000000000040012000000"
    ∷ "0800030002000600000002000600000005000000010001000f0000000100000001000100020002000600000005000000010000000100030000000000"
    ∷ "0100010002000000000000000000000005000000000000000000010003000000010003000000010002"
    ∷ []
    ) "61e40000"
    ∷ []
    ) (
    "leftover figure - attempts 24 twice 0"
    ∷ "region 0 in - kids 0,6 out -"
    ∷ "block 0 0.0/3/1/c0"
    ∷ "select 6 bool d0.0 cases 1,17 out -"
    ∷ "region 1 in - kids - out -"
    ∷ "region 17 in - kids - out -"
    ∷ "region 2 in - kids - out -"
    ∷ "region 3 in - kids 1,4,5 out -"
    ∷ "block 1 3.0/11/2/-"
    ∷ "select 4 num d3.0 cases 9,10,11,12,13,14,5,15 out 1"
    ∷ "region 9 in - kids - out false"
    ∷ "region 10 in - kids - out true"
    ∷ "region 11 in - kids - out true"
    ∷ "region 12 in - kids - out true"
    ∷ "region 13 in - kids - out true"
    ∷ "region 14 in - kids - out true"
    ∷ "region 5 in - kids - out false"
    ∷ "region 15 in - kids - out false"
    ∷ "select 5 bool n4.0 cases 8,16 out -"
    ∷ "region 8 in - kids - out -"
    ∷ "region 16 in - kids - out -"
    ∷ "region 6 in - kids 2,3 out -"
    ∷ "block 2 6.0/10/1/c4,6.1/18/0/d6.0,d6.0,undef1"
    ∷ "block 3 6.2/15/0/-"
    ∷ "region 7 in - kids - out -"
    ∷ "defer 0 to 3 count 1 in - if m6[t,f]"
    ∷ "defer 0 to 2 count 1 in - if m6[f,t]"
    ∷ "defer 2 to return count 0 in c2,c4 if t"
    ∷ "defer 3 to 3 count 2 in - if m5[t,m4[f,f,f,f,f,f,t,f]]"
    ∷ "defer 3 to 7 count 1 in - if m5[f,m4[t,f,f,f,f,f,f,f]]"
    ∷ "defer 3 to 6 count 1 in - if m5[f,m4[f,f,f,f,f,f,f,t]]"
    ∷ "defer 6 to return count 0 in d6.0,undef1 if t"
    ∷ "defer 7 to return count 0 in c0,c5 if t"
    ∷ []
    )
    -- leftover: the same; an exit list without a loop
    ∷ prints (
    block_bytes (
    "0000d4000b0000000200010001000200010001000000581903000000010001000000000000000000c6a9030000000100030002000400000000000400"
    ∷ "00000000000002000100010000002d820100000000000000020001000100010001000b000100040001000100030000006a5004000100020003000000"
    ∷ "020005000600010001000300010000000000010001000000a04503000000010002000200010004000000010004000000000001000100010001000600"
    ∷ "020009000100010005000000dd3505000100020005000000050009000a00080007000800020001000500000001000500000002000100050000000100"
    ∷ "0500000002000100050000000100050000000000020008000100000000006e8301000000000000000000000002570300000001000a00020004000000"
    ∷ "010000000000000001000100020001000100010001000800020003000100040000000000174501000000000003000400010003000200010001000000"
    ∷ "294203000000010002000200010009000000010009000100000002000100010000000f120300000001000300020001000a00000001000a0001000300"
    ∷ "0600080002"
    ∷ []
    ) "18360600"
    ∷ []
    ) (
    "leftover figure - attempts 27 twice 0"
    ∷ "region 0 in 1,1 kids - out -"
    ∷ "region 1 in - kids - out -"
    ∷ "region 2 in 1,1 kids - out -"
    ∷ "region 3 in 1,1 kids 0,5 out -"
    ∷ "block 0 3.0/11/1/i3.0"
    ∷ "select 5 bool d3.0 cases 5,15 out 1,1"
    ∷ "region 5 in - kids 1,3,4 out n3.0,n3.1"
    ∷ "block 1 5.0/6/2/i3.1"
    ∷ "select 3 num d5.0 cases 9,11,12,7,13 out 1,1,1"
    ∷ "region 9 in - kids - out undef1,undef1,false"
    ∷ "region 11 in - kids - out i3.1,i3.1,true"
    ∷ "region 12 in - kids - out undef1,undef1,false"
    ∷ "region 7 in - kids - out true,c0,true"
    ∷ "region 13 in - kids - out undef1,undef1,false"
    ∷ "select 4 bool n3.2 cases 10,14 out -"
    ∷ "region 10 in - kids - out -"
    ∷ "region 14 in - kids - out -"
    ∷ "region 15 in - kids - out undef1,undef1"
    ∷ "region 6 in - kids - out -"
    ∷ "region 8 in 1,1 kids 2 out -"
    ∷ "block 2 8.0/8/2/false"
    ∷ "defer 0 to 1 count 1 in - if t"
    ∷ "defer 1 to 3 count 1 in false,false if t"
    ∷ "defer 2 to return count 0 in - if t"
    ∷ "defer 3 to 3 count 1 in n5.0,n5.1 if m5[m4[t,f],f]"
    ∷ "defer 3 to 2 count 1 in i3.1,i3.1 if m5[m4[f,m3[t,f,f,f,f]],f]"
    ∷ "defer 3 to 8 count 2 in i3.1,i3.1 if m5[m4[f,m3[f,f,t,f,t]],f]"
    ∷ "defer 3 to 6 count 1 in - if m5[f,t]"
    ∷ "defer 6 to return count 0 in - if t"
    ∷ "defer 8 to return count 0 in - if t"
    ∷ []
    )
    -- twice from the value of an exit
    ∷ prints (
    block_bytes (
    "00003a000300000000000000000000000100030000000100010002000400000001000400000000000000020001000100000001000400010001000100"
    ∷ "010002000100020002000100010000000100010000000100010001000100010002000100010000000100020000000100010002"
    ∷ []
    ) "400e0000"
    ∷ []
    ) (
    "closed figure 0 attempts 7 twice 1"
    ∷ "region 0 in - kids 2,3 out -"
    ∷ "loop 2 in false body 1 repeat i1.0"
    ∷ "region 1 in 1 kids 1 out true"
    ∷ "select 1 bool i1.0 cases 3,4 out -"
    ∷ "region 3 in - kids - out -"
    ∷ "region 4 in - kids - out -"
    ∷ "select 3 bool true cases 2,6 out -"
    ∷ "region 2 in - kids 0 out -"
    ∷ "exit 0 0 in i1.0"
    ∷ "region 6 in - kids - out -"
    ∷ []
    )
    -- twice; the last deferred edge takes the gap; a typed merged Return
    ∷ prints (
    block_bytes (
    "000046000400000000000000000000000100030000000100010002000400000000000500000002000000020001000200000001000500010001000100"
    ∷ "000003000100030002000200010001000000050000000200000001000100010001000200020003000100020000000100010001000100020000000000"
    ∷ "0000000000000100010001000500000002"
    ∷ []
    ) "83180000"
    ∷ []
    ) (
    "whole figure 0 attempts 10 twice 1"
    ∷ "region 0 in - kids 1,2,3 out n3.0"
    ∷ "loop 1 in undef2 body 1 repeat n0.0"
    ∷ "region 1 in 2 kids 0 out undef2"
    ∷ "select 0 num false cases 4,5,6 out 1,1"
    ∷ "region 4 in - kids - out true,false"
    ∷ "region 5 in - kids - out false,false"
    ∷ "region 6 in - kids - out false,true"
    ∷ "select 2 bool n0.1 cases 2,8 out 1"
    ∷ "region 2 in - kids - out false"
    ∷ "region 8 in - kids - out true"
    ∷ "select 3 bool n2.0 cases 3,9 out 2"
    ∷ "region 3 in - kids - out undef2"
    ∷ "region 9 in - kids - out i1.0"
    ∷ []
    )
    -- twice from the outputs of a case
    ∷ prints (
    block_bytes (
    "00007f000300020005000100010004000100010001000100000001000400010001000000030002000000010004000100000000000100000002000100"
    ∷ "000003000100000003000400010000000000010000000100010000000100010000000300000004000100010001000100000063000100040001000100"
    ∷ "020001000100020004000000010001000100030000000000000001000200090000000000020000000000000004000000000009000100040001000400"
    ∷ "000000002800040001000200020001000200010000000400020002000100020002000100040000000000020002000100040004000000000002000200"
    ∷ "01000200020001000200020001"
    ∷ []
    ) "55ac0000"
    ∷ []
    ) (
    "whole figure 19 attempts 8 twice 1"
    ∷ "region 2 in - kids 0,3 out n3.2,n3.2,true,d2.1"
    ∷ "block 0 2.0/9/0/c0,false,2.1/9/1/false"
    ∷ "select 3 bool d2.1 cases 6,5 out 1,1,1"
    ∷ "region 6 in - kids - out d2.1,d2.1,false"
    ∷ "region 5 in - kids 2 out false,i0.0,i0.0"
    ∷ "loop 2 in d2.1,d2.1 body 0 repeat d2.1"
    ∷ "region 0 in 1,1 kids 1 out i0.1,d2.1"
    ∷ "select 1 bool d2.1 cases 3,4 out -"
    ∷ "region 3 in - kids - out -"
    ∷ "region 4 in - kids - out -"
    ∷ []
    )
    -- twice from a loop's first inputs, where the marked input is replaced
    ∷ prints (
    block_bytes (
    "0000940004000000050006000100010001000100010001000000010001000f0001000400010000000000010002000500010002000000000001000100"
    ∷ "040002000000000002000000000002000000000000000000000000000400010001000100010000000300030000000100020004000100010000000100"
    ∷ "010000000100010002000100010003000100030004000100010001000100000001000400010000000000010002000300010004000100020003000100"
    ∷ "020002000100020002000100020003000400010002000000040000000000010002000100010002000300000004000100010001000100010001001100"
    ∷ "01000500010001000300000002000400010002000300000002000300030004000100030003000100030001000000000004000100030003"
    ∷ []
    ) "46a10000"
    ∷ []
    ) (
    "closed figure 59 attempts 13 twice 1"
    ∷ "region 0 in - kids 0,3,5 out -"
    ∷ "block 0 0.0/15/1/c1"
    ∷ "loop 3 in d0.0,d0.0 body 1 repeat n2.0"
    ∷ "region 1 in 1,1 kids 2 out false,d0.0"
    ∷ "select 2 bool c1 cases 4,5 out 1"
    ∷ "region 4 in - kids - out false"
    ∷ "region 5 in - kids - out true"
    ∷ "select 5 bool true cases 7,8 out -"
    ∷ "region 7 in - kids 4 out -"
    ∷ "loop 4 in c0,i1.1 body 3 repeat true"
    ∷ "region 3 in 1,1 kids 1 out c0,c4"
    ∷ "block 1 3.0/17/1/i3.0"
    ∷ "region 8 in - kids - out -"
    ∷ []
    )
    -- twice from a loop's outputs, where the marked input is replaced
    ∷ prints (
    block_bytes (
    "0000b6000400000005000300010001000100000000000500050001000000000001000200010001000300000000000100040000000000040000000100"
    ∷ "000003000100010001000100010000000100040001000100010001000300040001000200010000000200030001000300010001000000010001000100"
    ∷ "020001000000030001000100000001000100010001000100010001000300040001000100010001000100010009000100050001000100020000000700"
    ∷ "040001000200020000000200020003000400010002000000020002000000010002000000010002000300030001000200000001000200000001000200"
    ∷ "020001000300030001000100010001000200000000000000030001000300020001000300000000000000020012000100030001000400000001000300"
    ∷ "050001000100030002000300020003000300040001000300000001000300010001000300000001000300010003000100030000000100030001000100"
    ∷ "030002"
    ∷ []
    ) "daef0000"
    ∷ []
    ) (
    "closed figure 401 attempts 17 twice 1"
    ∷ "region 0 in - kids 7,9 out -"
    ∷ "loop 7 in true body 1 repeat n6.0"
    ∷ "region 1 in 1 kids 0,6 out false"
    ∷ "block 0 1.0/0/1/false"
    ∷ "select 6 bool d1.0 cases 9,10 out 1"
    ∷ "region 9 in - kids - out false"
    ∷ "region 10 in - kids - out true"
    ∷ "select 9 bool true cases 12,13 out -"
    ∷ "region 12 in - kids 8 out -"
    ∷ "loop 8 in false,d1.0 body 3 repeat true"
    ∷ "region 3 in 1,1 kids 2,5 out n5.0,n5.1"
    ∷ "block 2 3.0/0/0/i3.1,c1,c2,3.1/18/1/true"
    ∷ "select 5 num i3.1 cases 6,7,8 out 1,1"
    ∷ "region 6 in - kids 4 out c1,i2.1"
    ∷ "loop 4 in i3.0,c1 body 2 repeat d2.0"
    ∷ "region 2 in 1,1 kids 1,3 out d2.0,c1"
    ∷ "block 1 2.0/9/1/c1"
    ∷ "select 3 bool d2.0 cases 4,5 out -"
    ∷ "region 4 in - kids - out -"
    ∷ "region 5 in - kids - out -"
    ∷ "region 7 in - kids - out i3.0,i3.1"
    ∷ "region 8 in - kids - out i3.0,i3.1"
    ∷ "region 13 in - kids - out -"
    ∷ []
    )
    -- leftover: twice from an unclaimed region alone; the entry's set is not the first
    ∷ prints (
    block_bytes (
    "0000c8000600020005000300ff00ff0001000300ff000300030001000100000001000700010001000000000001000400010002000000000002000100"
    ∷ "05000300010000000000010000000100010000000200030001000000000001000000010005000000030000000300ff00030003000100010008000100"
    ∷ "080001000500000003000200040001000200010000000200030004000300010001000000010001000100010001000200030001000100000001000100"
    ∷ "0100010001000200010001000000000001000300000001000400030000000000000005000000030005000000030000000300ff000300030001000100"
    ∷ "1000ff0008000100050000000300020001000100050000000300000000000300ff000300030001000100010001000000010005000000030002000400"
    ∷ "010002000400000002000500030003000100040000000100040001000100040002000300010004000000010004000100050000000300010003000300"
    ∷ "ff00030003000000020003000000010000000300010005000000010005000100010005000200010001"
    ∷ []
    ) "5a230600"
    ∷ []
    ) (
    "leftover figure - attempts 18 twice 1"
    ∷ "region 2 in - kids - out -"
    ∷ "region 1 in 255,3,3 kids 1,4 out -"
    ∷ "block 1 1.0/8/1/undef3"
    ∷ "select 4 bool d1.0 cases 6,7 out -"
    ∷ "region 6 in - kids - out -"
    ∷ "region 7 in - kids - out -"
    ∷ "region 3 in 255,3,3 kids 2 out -"
    ∷ "block 2 3.0/16/255/undef3"
    ∷ "region 4 in 255,3,3 kids 3,7 out -"
    ∷ "block 3 4.0/1/1/undef3"
    ∷ "select 7 bool d4.0 cases 10,11 out 3"
    ∷ "region 10 in - kids 6 out i5.0"
    ∷ "loop 6 in i4.2 body 5 repeat n5.0"
    ∷ "region 5 in 3 kids 0,5 out undef3"
    ∷ "block 0 0.0/0/1/i4.0"
    ∷ "select 5 bool d0.0 cases 8,9 out 1"
    ∷ "region 8 in - kids - out false"
    ∷ "region 9 in - kids - out true"
    ∷ "region 11 in - kids - out undef3"
    ∷ "defer 1 to 3 count 1 in i1.0,i1.1,i1.2 if m4[t,f]"
    ∷ "defer 1 to 4 count 1 in i1.0,i1.1,i1.2 if m4[f,t]"
    ∷ "defer 2 to 4 count 1 in c0,undef3,undef3 if t"
    ∷ "defer 3 to return count 0 in undef3 if t"
    ∷ "defer 4 to 1 count 2 in i4.0,i4.1,n7.0 if m7[t,f]"
    ∷ "defer 4 to 3 count 1 in i4.0,i4.1,undef3 if m7[f,t]"
    ∷ []
    )
    -- leftover: twice from an unclaimed region alone; the back edge's values looked up
    ∷ prints (
    block_bytes (
    "0000b8000600000000000000000000004600030000000100010003000400000000000400000000000500000002000000030001000100020001000100"
    ∷ "0a000100010001000100010000004a000400010001000100010002000500030003000100010000000200010000000100010002000300010001000000"
    ∷ "0100010001000100010002000100030003000100010002000100010008000100090001000100020001002d0004000100020002000000020004000500"
    ∷ "030001000200000001000200010001000200020003000100020000000200020000000100020002000000030001000100020000002500010002000100"
    ∷ "030002000400000001000000000003000100010002000000040004000100010004000100020001000300030001000400000004000000000001000400"
    ∷ "020003000100040000000100040001000100040002000100010003000100010002000000020003000000010002000300010005000000010005000100"
    ∷ "010005000200010004"
    ∷ []
    ) "3c4c0100"
    ∷ []
    ) (
    "leftover figure - attempts 19 twice 1"
    ∷ "region 0 in - kids - out -"
    ∷ "region 1 in 1,1,2 kids 0,5,6 out -"
    ∷ "block 0 1.0/10/1/i1.0"
    ∷ "select 5 bool i1.1 cases 10,11 out 1"
    ∷ "region 10 in - kids 4 out i5.0"
    ∷ "loop 4 in d1.0 body 5 repeat n3.0"
    ∷ "region 5 in 1 kids 1,3 out d2.0"
    ∷ "block 1 2.0/8/1/i5.0"
    ∷ "select 3 bool d2.0 cases 8,9 out 1"
    ∷ "region 8 in - kids - out false"
    ∷ "region 9 in - kids - out true"
    ∷ "region 11 in - kids - out undef1"
    ∷ "select 6 bool i1.1 cases 4,12 out 1"
    ∷ "region 4 in - kids 2 out n5.0"
    ∷ "select 2 bool n5.0 cases 6,7 out -"
    ∷ "region 6 in - kids - out -"
    ∷ "region 7 in - kids - out -"
    ∷ "region 12 in - kids - out i1.1"
    ∷ "region 3 in 1,1,2 kids - out -"
    ∷ "defer 0 to 1 count 1 in false,false,undef2 if t"
    ∷ "defer 1 to 1 count 1 in i1.0,false,i1.2 if m6[m2[t,f],f]"
    ∷ "defer 1 to 3 count 2 in i1.0,n6.0,i1.2 if m6[m2[f,t],t]"
    ∷ "defer 3 to return count 0 in i3.2,true if t"
    ∷ []
    )
    -- leftover: twice from a deferred edge alone
    ∷ prints (
    block_bytes (
    "00008700090000000500030002000300020000000000cc500300000001000100020000000000020005000000ff00000002000200ff00010001000800"
    ∷ "010002000000593c0400010002000100000002000300040002000100010000000100010001000000010004000100ff0000009e770300000001000600"
    ∷ "0000000002000200ff00010001001400010009000000592b04000100020003000000020001000500020001000300000005000000ff00010001000300"
    ∷ "0100000000000000e36d01000000000000000100ff0000003f7603000000010002000100010005000000000000000000740203000000010008000000"
    ∷ "01000200000000006afc01000000000000000000000015ea01"
    ∷ []
    ) "42780800"
    ∷ []
    ) (
    "leftover figure - attempts 17 twice 1"
    ∷ "region 0 in - kids 4,5 out -"
    ∷ "loop 4 in undef255 body 1 repeat n3.0"
    ∷ "region 1 in 255 kids 0,3 out undef255"
    ∷ "block 0 1.0/8/1/-"
    ∷ "select 3 bool d1.0 cases 3,10 out 1,1"
    ∷ "region 3 in - kids 1,2 out d3.0,false"
    ∷ "block 1 3.0/20/1/-"
    ∷ "select 2 bool d3.0 cases 9,5 out -"
    ∷ "region 9 in - kids - out -"
    ∷ "region 5 in - kids - out -"
    ∷ "region 10 in - kids - out false,true"
    ∷ "select 5 bool n3.1 cases 4,12 out -"
    ∷ "region 4 in - kids - out -"
    ∷ "region 12 in - kids - out -"
    ∷ "region 2 in 255 kids - out -"
    ∷ "defer 0 to return count 0 in - if m5[t,f]"
    ∷ "defer 0 to 2 count 1 in i1.0 if m5[f,t]"
    ∷ "defer 2 to return count 0 in - if t"
    ∷ []
    )
    -- twice from what is met while nesting and nowhere else
    ∷ prints (
    block_bytes (
    "000057000400000001000000000000000100030000000100010002000400000001000400000000000000020001000100010001000500010002000100"
    ∷ "010001000100030005000100020001000000030001000200030002000100010000000400000001000100010001000100010001000100010002000200"
    ∷ "03000100010001000100060000000300000001000300000001000300010001000200000000000100010000000100020009"
    ∷ []
    ) "5d2d0000"
    ∷ []
    ) (
    "closed figure 17 attempts 13 twice 1"
    ∷ "region 0 in - kids 4,5,6 out -"
    ∷ "loop 4 in false body 1 repeat n3.0"
    ∷ "region 1 in 1 kids 0,3 out true"
    ∷ "block 0 1.0/5/1/i1.0"
    ∷ "select 3 num d1.0 cases 4,5,6 out 1,1"
    ∷ "region 4 in - kids - out true,false"
    ∷ "region 5 in - kids - out false,true"
    ∷ "region 6 in - kids - out false,false"
    ∷ "select 5 bool n3.1 cases 2,8 out -"
    ∷ "region 2 in - kids 1 out -"
    ∷ "block 1 2.0/6/0/-"
    ∷ "region 8 in - kids - out -"
    ∷ "select 6 bool true cases 3,9 out -"
    ∷ "region 3 in - kids 2 out -"
    ∷ "exit 2 9 in -"
    ∷ "region 9 in - kids - out -"
    ∷ []
    )
    -- leftover: a loop that would cost more than the bound, but there is no figure
    ∷ prints (
    block_bytes (
    "00002a0003000000ffff0000000000000100030000000100010000000100020000000100010007000100ffff0000ffff040001000200010000000200"
    ∷ "01000200000000000100020000000000010001"
    ∷ []
    ) "53cf0000"
    ∷ []
    ) (
    "leftover figure - attempts 7 twice 0"
    ∷ "region 0 in - kids 2 out -"
    ∷ "loop 2 in - body 1 repeat d1.0"
    ∷ "region 1 in - kids 0,1 out -"
    ∷ "block 0 1.0/7/1/-"
    ∷ "select 1 bool d1.0 cases 3,4 out -"
    ∷ "region 3 in - kids - out -"
    ∷ "region 4 in - kids - out -"
    ∷ "region 2 in - kids - out -"
    ∷ "defer 0 to 2 count 2 in - if t"
    ∷ "defer 2 to return count 0 in - if t"
    ∷ []
    )
    -- 128 regions, and a figure above the bound: not refused by 9
    ∷ prints (
    block_bytes (
    "0000470111000000ffff0000000000000100040001000400000001000200010001000000000000000000010005000100040000000100080002000300"
    ∷ "040002000200040003000200000000000000000000000000010005000100040000000100080003000500030004000400040004000300000000000000"
    ∷ "000000000000010005000100040000000100080006000600060005000500040005000500000000000000000000000000010005000100040000000100"
    ∷ "080006000700070006000700070005000600000000000000000000000000010005000100040000000100080007000600060008000700080006000700"
    ∷ "000000000000000000000000010005000100040000000100080009000700070007000900090009000800000000000000000000000000010005000100"
    ∷ "04000000010008000800080008000a00080008000800080000000000000000000000010005000100040000000100080009000b000a000a000a000b00"
    ∷ "0b000b0000000000000000000000000001000400010004000000010002000b000b00000000000000000001000500010004000000010008000c000b00"
    ∷ "0b000d000c000d000c000b0000000000000000000000000001000500010004000000010008000c000d000d000d000e000e000e000c00000000000000"
    ∷ "00000000000001000500010004000000010008000e000d000e000e"
    ∷ []
    ) "da840400"
    ∷ block_bytes (
    "01000e000f000e000f0000000000000000000000000001000500010004000000010008000f000f000e000e000e000e000f000f000000000000000000"
    ∷ "000001000500010004000000010008000f000f000f000f000f000f000f000f000000000000000100010001000100ffff0000ffff0400010002000f00"
    ∷ "000002000f001000000000000100100000000000010001"
    ∷ []
    ) "cd1e0200"
    ∷ []
    ) (
    "refused 11 0"
    ∷ []
    )
    -- 129 regions
    ∷ prints (
    block_bytes (
    "00003c0110000000ffff0000000000000100050001000400000001000800010002000300010001000200020003000000000000000000000000000100"
    ∷ "040001000400000001000200020004000000000000000000000001000500010004000000010008000500040003000300030003000500030000000000"
    ∷ "000000000000000001000500010004000000010008000400040006000400060006000400050000000000000000000000000001000500010004000000"
    ∷ "010008000700050006000600070007000500070000000000000000000000000001000500010004000000010008000600060008000700070007000600"
    ∷ "080000000000000000000000000001000500010004000000010008000700090009000900080007000800070000000000000000000000000001000500"
    ∷ "0100040000000100080009000a00080009000a00080009000a00000000000000000000000000010005000100040000000100080009000a000a000900"
    ∷ "0b000b000b00090000000000000000000000000001000500010004000000010008000b000b000b000c000b000a000c000a0000000000000000000000"
    ∷ "000001000500010004000000010008000d000b000c000c000d000b000c000d0000000000000000000000000001000500010004000000010008000e00"
    ∷ "0e000e000c000e000d000c000d0000000000000000000000000001"
    ∷ []
    ) "09830400"
    ∷ block_bytes (
    "01000500010004000000010008000d000e000e000e000e000e000e000e000000000000000000000001000500010004000000010008000e000e000e00"
    ∷ "0e000e000e000e000e000000000000000100010001000100ffff0000ffff0400010002000e00000002000e000f000000000001000f00000000000100"
    ∷ "01"
    ∷ []
    ) "61a30100"
    ∷ []
    ) (
    "refused 9 0"
    ∷ []
    )
    -- 512 node outputs, and a figure above the bound
    ∷ prints (
    block_bytes (
    "00009e0116000000ffff000000000000010003000000010001000000000000000100010007000000ffff0000ffff0400010004000000010002000100"
    ∷ "02000000000008000e000f00100011001200130014001500000000000100040001000400000001000200030001000000000000000000000001000400"
    ∷ "010004000000010002000100040000000000000000000000010004000100040000000100020001000500000000000000000000000100040001000400"
    ∷ "000001000200010006000000000000000000000001000400010004000000010002000100070000000000000000000000010004000100040000000100"
    ∷ "020001000800000000000000000000000100040001000400000001000200090001000000000000000000000001000400010004000000010002000a00"
    ∷ "01000000000000000000000001000400010004000000010002000b00010000000000000000000000010004000100040000000100020001000c000000"
    ∷ "0000000000000000010004000100040000000100020001000d00000000000000000001000100080001000000000001000500010002000d0000000800"
    ∷ "0e000f00100011001200130014001500040002000d00000002000d00000002000d00000002000d000000040002000d00000002000d00000002000d00"
    ∷ "000002000d000000040002000d00000002000d00000002000d"
    ∷ []
    ) "23530400"
    ∷ block_bytes (
    "010002000d000000040002000d00000002000d00000002000d00000002000d000000040002000d00000002000d00000002000d00000002000d000000"
    ∷ "040002000d00000002000d00000002000d00000002000d000000040002000d00000002000d00000002000d00000002000d000000040002000d000000"
    ∷ "02000d00000002000d00000002000d000000000004000100010001000100000001000200010000000000000004000100010001000100000001000200"
    ∷ "010000000000000004000100010001000100000001000200010000000000000004000100010001000100000001000100000000000000040001000100"
    ∷ "010001000000010001000000000000000400010001000100010000000100010000000000000004000100010001000100000001000200010000000000"
    ∷ "0000040001000100010001000000010001"
    ∷ []
    ) "04a90000"
    ∷ []
    ) (
    "refused 11 0"
    ∷ []
    )
    -- 513 node outputs
    ∷ prints (
    block_bytes (
    "00009e0116000000ffff000000000000010003000000010001000000000000000100010007000000ffff0000ffff0400010004000000010002000200"
    ∷ "01000000000008000e000f00100011001200130014001500000000000100040001000400000001000200030001000000000000000000000001000400"
    ∷ "010004000000010002000400010000000000000000000000010004000100040000000100020001000500000000000000000000000100040001000400"
    ∷ "000001000200060001000000000000000000000001000400010004000000010002000700010000000000000000000000010004000100040000000100"
    ∷ "020001000800000000000000000000000100040001000400000001000200090001000000000000000000000001000400010004000000010002000100"
    ∷ "0a000000000000000000000001000400010004000000010002000b0001000000000000000000000001000400010004000000010002000c0001000000"
    ∷ "000000000000000001000400010004000000010002000d000100000000000000000001000100080001000000000001000500010002000d0000000800"
    ∷ "0e000f00100011001200130014001500040002000d00000002000d00000002000d00000002000d000000040002000d00000002000d00000002000d00"
    ∷ "000002000d000000040002000d00000002000d00000002000d"
    ∷ []
    ) "e9520400"
    ∷ block_bytes (
    "010002000d000000040002000d00000002000d00000002000d00000002000d000000040002000d00000002000d00000002000d00000002000d000000"
    ∷ "040002000d00000002000d00000002000d00000002000d000000040002000d00000002000d00000002000d00000002000d000000040002000d000000"
    ∷ "02000d00000002000d00000002000d000000000004000100010001000100000001000200010000000000000004000100010001000100000001000100"
    ∷ "000000000000040001000100010001000000010001000000000000000400010001000100010000000100010000000000000004000100010001000100"
    ∷ "000001000200010000000000000004000100010001000100000001000100000000000000040001000100010001000000010002000100000000000000"
    ∷ "0400010001000100010000000100020001"
    ∷ []
    ) "c4a90000"
    ∷ []
    ) (
    "refused 9 0"
    ∷ []
    )
    -- 512 condition records, and a figure above the bound
    ∷ prints (
    block_bytes (
    "0000c00120000100ffff00000000000001000500010004000000010008000600140016000b001a00020004001b000000000000000000000000000000"
    ∷ "000000000000000001000500010004000000010003001a0008001b000000000000000000000000000100030000000100150000000000000000000100"
    ∷ "0500010004000000010008000f000a000c0015000d001d00120005000000000000000000000000000000000000000000000001000300000001001800"
    ∷ "00000000000000000100050001000400000001000400060002001f001900000000000000000000000000000001000300000001001100000000000000"
    ∷ "000001000500010004000000010008000b00050014001900180006000200100000000000000000000000000000000000000000000000010005000100"
    ∷ "04000000010006001e00100003000e000700090000000000000000000000000000000000000001000300000001000500000000000000000001000300"
    ∷ "000001000700000000000000000001000300000001001000000000000000000001000400010004000000010002001900040000000000000000000000"
    ∷ "010005000100040000000100040017001d00150002000000000000000000000000000000010005000100040000000100020012001700000000000000"
    ∷ "000000000100050001000400000001000800190013000000170011"
    ∷ []
    ) "db460400"
    ∷ block_bytes (
    "01001f001c00180000000000000000000000000000000000000000000000010005000100040000000100020009000500000000000000000001000100"
    ∷ "01000100ffff0000ffff04000100020011000000020011001c000000000001001c000000000001000300000001000d00000000000000000001000300"
    ∷ "000001000a00000000000000000001000300000001000e000000000000000000010004000100040000000100020016001d0000000000000000000000"
    ∷ "01000300000001001d0000000000000000000100040001000400000001000200160002000000000000000000000001000300000001001f0000000000"
    ∷ "00000000010003000000010014000000000000000000010001000000000000000000000001000500010004000000010008001e000700090005001600"
    ∷ "0200060010000000000000000000000000000000000000000000000001000300000001000c0000000000000000000100010000000000000000000000"
    ∷ "010003000000010013000000000000000000010003000000010014"
    ∷ []
    ) "79d20200"
    ∷ []
    ) (
    "refused 11 0"
    ∷ []
    )
    -- 513 condition records
    ∷ prints (
    block_bytes (
    "0000c20120000100ffff00000000000001000500010004000000010008000600140016000b001a00020004001b000000000000000000000000000000"
    ∷ "000000000000000001000500010004000000010003001a0008001b000000000000000000000000000100030000000100150000000000000000000100"
    ∷ "0500010004000000010008000f000a000c0015000d001d00120005000000000000000000000000000000000000000000000001000300000001001800"
    ∷ "00000000000000000100050001000400000001000400060002001f001900000000000000000000000000000001000300000001001100000000000000"
    ∷ "000001000500010004000000010008000b00160014001900180006000200100000000000000000000000000000000000000000000000010005000100"
    ∷ "04000000010006001e00100003000e000700090000000000000000000000000000000000000001000300000001000500000000000000000001000300"
    ∷ "0000010007000000000000000100010001000100ffff0000ffff0400010002000b00000002000b001000000000000100100000000000010004000100"
    ∷ "04000000010002000400190000000000000000000000010005000100040000000100040017001d001500020000000000000000000000000000000100"
    ∷ "050001000400000001000200120015000000000000000000000001"
    ∷ []
    ) "a6dd0900"
    ∷ block_bytes (
    "0100050001000400000001000800190013000000170011001f001c001800000000000000000000000000000000000000000000000100050001000400"
    ∷ "00000100030009001d00050000000000000000000000000001000300000001001c00000000000000000001000300000001000d000000000000000000"
    ∷ "01000300000001000a00000000000000000001000300000001000e00000000000000000001000400010004000000010002001d001600000000000000"
    ∷ "0000000001000300000001001d0000000000000000000100040001000400000001000200160017000000000000000000000001000300000001001f00"
    ∷ "0000000000000000010003000000010014000000000000000000010001000000000000000000000001000500010004000000010008001e0015000900"
    ∷ "050016000200060010000000000000000000000000000000000000000000000001000300000001000c00000000000000000001000100000000000000"
    ∷ "00000000010003000000010013000000000000000000010003000000010019"
    ∷ []
    ) "6bf80100"
    ∷ []
    ) (
    "refused 9 0"
    ∷ []
    )
    -- 107 nodes; no record has 512
    ∷ record { store = store_of_graph (graph 65535 [] (long_way 0 13)); text = lines ("refused 11 0" ∷ []) }
    ∷ []

-- ---- computed: one bit
unfoldable pub all_printed : List SheetCase → Bool
all_printed [] = true
all_printed (c ∷ cs) = same_numbers (quick_printed c.store) c.text && all_printed cs

each_printed : (cs : List SheetCase) → all_printed cs ≡ true → map (λ c. printed c.store) cs ≡ map (λ c. c.text) cs
unfolding all_printed
each_printed [] e = refl
each_printed (c ∷ cs) e =
    let h = and_both (same_numbers (quick_printed c.store) c.text) (all_printed cs) e in
    rw (prints_by_test c.store c.text h.0, each_printed cs h.1)

-- For each store of the list the definitions print what it states.
pub sheets_printed : map (λ c. printed c.store) sheet_cases ≡ map (λ c. c.text) sheet_cases
unfolding all_printed quick_printed block_bytes store_of_graph
sheets_printed = each_printed sheet_cases refl
